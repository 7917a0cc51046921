-- The fault of a declaration is what `read` says of its text.
use Rattle.path_service.proofs.ReadFault.{read_fault}
use Rattle.path_service.proofs.exploring.explore_text.Goals as goal

pub returns-in-Err-clause-err : goal.returns-in-Err-clause-err
returns-in-Err-clause-err g c =
    let told = c.in-Err.ensures in
    read_fault _ c.args.declaration.now c.in-Err.fault told.err told.too_long told.bad_byte told.first_bad told.word_too_long told.first_long_word told.number_too_long told.first_long_number
