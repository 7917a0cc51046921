-- Blocks are read one after the other, and their lines taken.
use Rattle.std.proofs.Common.{◌≡◌, ℕ, ◌≤◌, Bool, List, [], ◌++◌, length, take, Option, sym, ap, ◌∙◌, subst}
use Rattle.std.proofs.lemmas.List.{append-nil, take-append-le, take-take}
use Rattle.std.specs.Io.KnownBytes.{Consumes, IsAtEnd}
use Rattle.path_model.specs.declared.journal.Line.{Line}
use Rattle.path_system.specs.Accounts.{Account}
use Rattle.cmd_follow.specs.Follows.{GaveAll, GaveFirst}
use Rattle.cmd_follow.specs.Inner.Taken.{Passes, PassesRead, Stopped, Through}
use Rattle.cmd_follow.specs.declared.stop.Stop.{Stop}
use Rattle.cmd_follow.proofs.Passing.{passes_none, passes_block, passes_more, stops_here, stops_rest, through_rest}
use Rattle.cmd_follow.proofs.Written.{read_none, reads, read_all, read_first}

module _ (may_fail : Type 0) (start now : Account) (had has : Option (List ℕ)) (pending : List ℕ) (before mid : Bool) (wrote writing : Option (List ℕ))
    (p : PassesRead may_fail start now had has pending before mid wrote writing) where
  module _ (P : List Line → List Line → Type 0) where
    -- it stopped between two blocks
    pub gave_first : P now.journal [] → (stop : Stop) → GaveFirst had (λ text. Stopped may_fail start text before wrote writing stop P)
    gave_first here stop = (p.0, read_first had has p.0 p.1, stops_here may_fail start now p.0 pending before mid wrote writing P p.2 here stop)

    -- it stopped in what is left
    pub gave_last : (writes : Option (List ℕ)) (Q : List Line → List Line → Type 0) → ((end more : List Line) → Q end more → P end more) → (stop : Stop)
        → Stopped may_fail now pending mid writing writes stop Q → GaveFirst had (λ text. Stopped may_fail start text before wrote writes stop P)
    gave_last writes Q to stop s =
        (p.0, read_first had has p.0 p.1, stops_rest may_fail start now p.0 pending before mid wrote writing writes stop P Q p.2 to s)

    -- it stopped in a block
    pub gave_block : (left : Option (List ℕ)) (block : List ℕ) (writes : Option (List ℕ)) (Q : List Line → List Line → Type 0)
        → ((end more : List Line) → Q end more → P end more) → Consumes has left block → (stop : Stop)
        → Stopped may_fail now (pending ++ block) mid writing writes stop Q → GaveFirst had (λ text. Stopped may_fail start text before wrote writes stop P)
    gave_block left block writes Q to c stop s = (
      p.0 ++ block,
      read_first had left (p.0 ++ block) (reads had has left p.0 block p.1 c),
      stops_rest may_fail start now (p.0 ++ block) (pending ++ block) before mid wrote writing writes stop P Q (passes_more may_fail start now p.0 pending block before mid wrote writing p.2) to s,
    )

  -- a block more was read, and its lines taken
  pub read_more : (next : Account) (left : Option (List ℕ)) (block behind : List ℕ) (after : Bool) (writes : Option (List ℕ)) → Consumes has left block
      → Passes may_fail now next (pending ++ block) behind mid after writing writes
      → PassesRead may_fail start next had left behind before after wrote writes
  read_more next left block behind after writes c q =
      (p.0 ++ block, reads had has left p.0 block p.1 c, passes_block may_fail start now next p.0 pending block behind before mid after wrote writing writes p.2 q)

  -- nothing more was read, and the last line taken
  pub gave_all : (left : Option (List ℕ)) (block : List ℕ) (after : Bool) (lines : List Line) (writes : Option (List ℕ)) → block ≡ [] → Consumes has left block → IsAtEnd left
      → Through may_fail now pending mid after lines writing writes → GaveAll had (λ text. Through may_fail start text before after lines wrote writes)
  gave_all left block after lines writes none c end t =
      let all : Consumes had left p.0 = subst (λ x. Consumes had left x) (ap (λ x. p.0 ++ x) none ∙ append-nil p.0) (reads had has left p.0 block p.1 c) in
      (p.0, read_all had left p.0 all end, through_rest may_fail start now p.0 pending before mid after lines wrote writing writes p.2 t)

-- nothing was read
pub read_nothing : (may_fail : Type 0) (start : Account) (had : Option (List ℕ)) (pending : List ℕ) (before : Bool) (wrote : Option (List ℕ)) → pending ≡ []
    → PassesRead may_fail start start had had pending before before wrote wrote
read_nothing may_fail start had pending before wrote none =
    subst (λ x. PassesRead may_fail start start had had x before before wrote wrote) (sym none)
    ([], read_none had, passes_none may_fail start [] before wrote)

-- what was read into the front of a block
pub read_part : (a b : Option (List ℕ)) (count len : ℕ) (read rest block : List ℕ) → block ≡ take len (read ++ rest) → count ≤ length read → count ≤ len
    → Consumes a b (take count read) → Consumes a b (take count block)
read_part a b count len read rest block is within fits c =
    subst (λ x. Consumes a b x) (sym (ap (take count) is ∙ take-take count len (read ++ rest) fits ∙ take-append-le count read rest within)) c
