-- What the fault of a declaration's text says of the text.
use Rattle.path_service.proofs.ReadFault.{read_fault}
use Rattle.path_service.proofs.service.controller_of.Goals as goal

pub returns-in-Err-clause-err : goal.returns-in-Err-clause-err
returns-in-Err-clause-err c =
    let told = c.in-Err.ensures in
    read_fault _ c.args.text.now c.in-Err.fault told.err told.too_long told.bad_byte told.first_bad told.word_too_long told.first_long_word told.number_too_long told.first_long_number
