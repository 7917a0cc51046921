-- The semaphores of a path, read upwards from each name.
use Rattle.std.specs.Prelude.{◌==◌, ◌<◌, ◌+◌, ◌-◌, if◌then◌else◌, ℕ, List, [], ◌∷◌, ◌++◌, ◌⊎◌}
use Rattle.path_model.specs.declared.ids.OpId.{OpId}
use Rattle.path_model.specs.declared.history.Event.{Event}
use Rattle.path_model.specs.declared.history.Event.TheVariants.{Began, Ended}
use Rattle.path_model.specs.Trees.{Bound, any, most, Tree, op, seq, alt, burst, has}

-- how many semicolons and how many pairs of braces a tree has
abbrev pub semicolons : Tree → ℕ
semicolons (op a) = 0
semicolons (seq s t) = semicolons s + semicolons t + 1
semicolons (alt s t) = semicolons s + semicolons t
semicolons (burst bd s) = semicolons s

abbrev pub braces : Tree → ℕ
braces (op a) = 0
braces (seq s t) = braces s + braces t
braces (alt s t) = braces s + braces t
braces (burst bd s) = braces s + 1

-- what is above a name: a semicolon with it in its left or right operand, or braces around it with their bound; all by their numbers
pub data Above : Type 0 where
  LeftOf : ℕ → Above
  RightOf : ℕ → Above
  Within : Bound → ℕ → Above

-- what is above the name in the tree, the lowest first; n and m are the numbers of its first semicolon and its first braces
abbrev pub above : Tree → ℕ → ℕ → OpId → List Above
above (op b) n m a = []
above (seq s t) n m a =
    if has s a
    then (above s n m a ++ LeftOf (n + semicolons s) ∷ [])
    else (above t (n + semicolons s + 1) (m + braces s) a ++ RightOf (n + semicolons s) ∷ [])
above (alt s t) n m a = if has s a then above s n m a else above t (n + semicolons s) (m + braces s) a
above (burst bd s) n m a = above s n (m + 1) a ++ Within bd m ∷ []

-- what an operation does to a semaphore: directly, or through the counter (first) of braces; with a bound, also to its semaphore
pub data Term : Type 0 where
  Plain : ℕ → Term
  Braced : ℕ → ℕ → Term
  Counted : ℕ → ℕ → Term

abbrev pub through : Bound → ℕ → ℕ → Term
through any c q = Braced c q
through (most n) c q = Counted c q

-- the semaphore of the lowest semicolon that has the name in its right operand, or the path's own
abbrev pub waits_on : List Above → ℕ
waits_on [] = 0
waits_on (RightOf q ∷ up) = q
waits_on (LeftOf q ∷ up) = waits_on up
waits_on (Within b c ∷ up) = waits_on up

-- the same for the left operand
abbrev pub signals : List Above → ℕ
signals [] = 0
signals (LeftOf q ∷ up) = q
signals (RightOf q ∷ up) = signals up
signals (Within b c ∷ up) = signals up

-- P, or PP if there are braces below that semicolon
abbrev pub prologue_below : List Above → Term
prologue_below [] = Plain 0
prologue_below (RightOf q ∷ up) = Plain q
prologue_below (LeftOf q ∷ up) = prologue_below up
prologue_below (Within b c ∷ up) = through b c (waits_on up)

-- V, or VV if there are braces below that semicolon
abbrev pub epilogue_below : List Above → Term
epilogue_below [] = Plain 0
epilogue_below (LeftOf q ∷ up) = Plain q
epilogue_below (RightOf q ∷ up) = epilogue_below up
epilogue_below (Within b c ∷ up) = through b c (signals up)

abbrev pub prologue : Tree → OpId → Term
prologue s a = prologue_below (above s 1 0 a)

abbrev pub epilogue : Tree → OpId → Term
epilogue s a = epilogue_below (above s 1 0 a)

-- the values of the semaphores, and of the counters and the bounds' semaphores by their braces
pub record Values : Type 0 where
  pub semaphore : ℕ → ℕ
  pub counter : ℕ → ℕ
  pub bound : ℕ → ℕ

abbrev pub put : (ℕ → ℕ) → ℕ → ℕ → ℕ → ℕ
put f k x i = if i == k then x else f i

abbrev pub take_one : (ℕ → ℕ) → ℕ → ℕ → ℕ
take_one f k = put f k (f k - 1)

abbrev pub add_one : (ℕ → ℕ) → ℕ → ℕ → ℕ
add_one f k = put f k (f k + 1)

abbrev pub Passes : Term → Values → Type 0
Passes (Plain q) v = 0 < v.semaphore q
Passes (Braced c q) v = (0 < v.counter c) ⊎ (0 < v.semaphore q)
Passes (Counted c q) v = ((0 < v.counter c) ⊎ (0 < v.semaphore q)) × (0 < v.bound c)

abbrev pub started : Term → Values → Values
started (Plain q) v = record v { semaphore = take_one v.semaphore q }
started (Braced c q) v =
    record { semaphore = if v.counter c == 0 then take_one v.semaphore q else v.semaphore; counter = add_one v.counter c; bound = v.bound }
started (Counted c q) v =
    record {
      semaphore = if v.counter c == 0 then take_one v.semaphore q else v.semaphore;
      counter = add_one v.counter c;
      bound = take_one v.bound c;
    }

abbrev pub finished : Term → Values → Values
finished (Plain q) v = record v { semaphore = add_one v.semaphore q }
finished (Braced c q) v =
    record { semaphore = if v.counter c == 1 then add_one v.semaphore q else v.semaphore; counter = take_one v.counter c; bound = v.bound }
finished (Counted c q) v =
    record {
      semaphore = if v.counter c == 1 then add_one v.semaphore q else v.semaphore;
      counter = take_one v.counter c;
      bound = add_one v.bound c;
    }

abbrev pub size : Bound → ℕ
size any = 0
size (most n) = n

-- the bound of the braces number c, if those of the tree have the numbers from m on; 0 for all other numbers
abbrev pub bound_at : Tree → ℕ → ℕ → ℕ
bound_at (op b) m c = 0
bound_at (seq s t) m c = bound_at s m c + bound_at t (m + braces s) c
bound_at (alt s t) m c = bound_at s m c + bound_at t (m + braces s) c
bound_at (burst bd s) m c = if c == m then size bd else bound_at s (m + 1) c

abbrev pub opening : Tree → Values
opening s = record { semaphore = λ q. if q == 0 then 1 else 0; counter = λ c. 0; bound = bound_at s 0 }

abbrev pub changed : Tree → Event → Values → Values
changed s (Began a) v = started (prologue s a) v
changed s (Ended a) v = finished (epilogue s a) v

-- the values after the events, in order
abbrev pub values_from : Tree → Values → List Event → Values
values_from s v [] = v
values_from s v (e ∷ h) = values_from s (changed s e v) h

abbrev pub values_after : Tree → List Event → Values
values_after s h = values_from s (opening s) h

-- the prologue of the operation can pass after the history
abbrev pub CanPass : Tree → List Event → OpId → Type 0
CanPass s h a = Passes (prologue s a) (values_after s h)
