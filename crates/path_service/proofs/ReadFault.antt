-- The fault of a declaration's text is what `read` says of it.
use Rattle.std.proofs.Common.{◌≡◌, ◌⊎◌, ◌↔◌, inl, inr, ℕ, ◌<◌, ◌≤◌, List, length, ap, Err, IsErrOf}
use Rattle.path_lex.specs.declared.fault.DeclFault.{DeclFault}
use Rattle.path_lex.specs.declared.fault.DeclFault.TheVariants.{OutOfMemory, TooLong, BadByte, WordTooLong, NumberTooLong}
use Rattle.path_lex.specs.Bytes.{IsFirstBad}
use Rattle.path_lex.specs.Spelling.{IsFirstLongWord, IsFirstLongNumber}
use Rattle.path_read.specs.Refused.{Refuses}
use Rattle.path_service.specs.ReadFaults.{IsReadFault}

module _ (D : Type 0) (text : List ℕ) (fault : DeclFault) where
  -- reading ended with this fault
  abbrev Ended : DeclFault → Type 0
  Ended e = IsErrOf {T = D} (Err fault) e

  is_fault : (e : DeclFault) → Ended e → fault ≡ e
  is_fault e is = cc

  ended : (e : DeclFault) → fault ≡ e → Ended e
  ended e is = ap Err is

  -- the first place that is so is named, unless memory runs out
  named : (At : ℕ → DeclFault) (First : ℕ → Type 0) → ((at : ℕ) → length text ≤ 65536 → First at → Ended (At at) ⊎ Ended OutOfMemory)
      → (at : ℕ) → length text ≤ 65536 → First at → (fault ≡ At at) ⊎ (fault ≡ OutOfMemory)
  named At First told at short first = elim (told at short first) [
    | inl is ↦ inl (is_fault (At at) is)
    | inr is ↦ inr (is_fault OutOfMemory is)
  ]

  pub read_fault : Refuses text fault → (Ended TooLong ↔ (65536 < length text))
      → ((at : ℕ) → length text ≤ 65536 → IsFirstBad text at → Ended (BadByte at) ⊎ Ended OutOfMemory)
      → ((at : ℕ) → Ended (BadByte at) → IsFirstBad text at)
      → ((at : ℕ) → length text ≤ 65536 → IsFirstLongWord text at → Ended (WordTooLong at) ⊎ Ended OutOfMemory)
      → ((at : ℕ) → Ended (WordTooLong at) → IsFirstLongWord text at)
      → ((at : ℕ) → length text ≤ 65536 → IsFirstLongNumber text at → Ended (NumberTooLong at) ⊎ Ended OutOfMemory)
      → ((at : ℕ) → Ended (NumberTooLong at) → IsFirstLongNumber text at)
      → IsReadFault text fault
  read_fault refused long bad first_bad word first_word number first_number = record {
    refused = refused;
    too_long = ((λ is. long.0 (ended TooLong is)), (λ past. is_fault TooLong (long.1 past)));
    bad_byte = named BadByte (IsFirstBad text) bad;
    first_bad = λ at is. first_bad at (ended (BadByte at) is);
    word_too_long = named WordTooLong (IsFirstLongWord text) word;
    first_long_word = λ at is. first_word at (ended (WordTooLong at) is);
    number_too_long = named NumberTooLong (IsFirstLongNumber text) number;
    first_long_number = λ at is. first_number at (ended (NumberTooLong at) is);
  }
