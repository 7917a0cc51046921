-- What the fault of a declaration's text says of the text.
use Rattle.std.specs.Prelude.{◌≡◌, ◌⊎◌, ◌↔◌, ◌<◌, ◌≤◌, ℕ, List, length}
use Rattle.path_lex.specs.declared.fault.DeclFault.{DeclFault}
use Rattle.path_lex.specs.declared.fault.DeclFault.TheVariants.{OutOfMemory, TooLong, BadByte, WordTooLong, NumberTooLong}
use Rattle.path_lex.specs.Bytes.{IsFirstBad}
use Rattle.path_lex.specs.Spelling.{IsFirstLongWord, IsFirstLongNumber}
use Rattle.path_read.specs.Refused.{Refuses}

-- unless memory ran out, the text isn't a declaration, and these faults come exactly where the text has them: it is too long, or else
-- has a bad byte, or else a word or a number that is too long; each names the first one
pub record IsReadFault (text : List ℕ) (fault : DeclFault) : Type 0 where
  pub refused : Refuses text fault
  pub too_long : (fault ≡ TooLong) ↔ (65536 < length text)
  pub bad_byte : (at : ℕ) → length text ≤ 65536 → IsFirstBad text at → (fault ≡ BadByte at) ⊎ (fault ≡ OutOfMemory)
  pub first_bad : (at : ℕ) → fault ≡ BadByte at → IsFirstBad text at
  pub word_too_long :
      (at : ℕ) → length text ≤ 65536 → IsFirstLongWord text at → (fault ≡ WordTooLong at) ⊎ (fault ≡ OutOfMemory)
  pub first_long_word : (at : ℕ) → fault ≡ WordTooLong at → IsFirstLongWord text at
  pub number_too_long :
      (at : ℕ) → length text ≤ 65536 → IsFirstLongNumber text at → (fault ≡ NumberTooLong at) ⊎ (fault ≡ OutOfMemory)
  pub first_long_number : (at : ℕ) → fault ≡ NumberTooLong at → IsFirstLongNumber text at
