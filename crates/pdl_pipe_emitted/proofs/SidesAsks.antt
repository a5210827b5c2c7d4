-- What a stage asks of delayed memories, as its rows lead to it: the delayed reads of that stage.
use Rattle.std.proofs.Common.{◌≡◌, refl, sym, ap, ap₂, ◌∙◌, subst, ℕ, ◌==◌, Bool, true, false, List, [], ◌∷◌, Some}
use Rattle.std.specs.Prelude.{if◌then◌else◌}
use Rattle.std.proofs.lemmas.Bool.{eqb-true}
use Rattle.pdl_word.specs.Each.{Each}
use Rattle.pdl_word.proofs.Each.{each_push}
use Rattle.pdl_semantics.specs.Flat.{Op, Bind, CombRead, DelayedRead, Write, ReserveRead, ReserveWrite, Block, Release, Call, SpecCall, Verify, SpecCheck, SpecBarrier, AdviceBind, AdviceRead, AdviceWrite, Stmt, Pipe}
use Rattle.pdl_semantics.specs.Stages.{in_stage}
use Rattle.pdl_net.specs.Circuit.{Circuit}
use Rattle.pdl_net.specs.Signal.{Signal}
use Rattle.pdl_machine_inflight.specs.Readings.{reading, IsTheReading, Reads}
use Rattle.pdl_law_parts.specs.Walk.{Locks, Ask, Walk, Row, walk_after, AreRows, both, if_on}
use Rattle.pdl_law_sides.specs.Sides.{Sides, ports_open}
use Rattle.pdl_pipe_moves.specs.Gates.{opens_by}

-- a request is of a delayed read of stage k
abbrev pub AsksOf : Pipe → ℕ → Ask → Type 0
AsksOf p k q = reading p q.mem ≡ Some (record { stage = k; var = q.var })

-- each of these statements stands in a stage, where this holds of it
abbrev EachIn : (Stmt → Type 0) → ℕ → List Stmt → Type 0
EachIn P k xs = Each (λ (x : Stmt). P x × (x.stage ≡ k)) xs

-- what holds of each statement holds of those of a stage
each_in : (P : Stmt → Type 0) (k : ℕ) (xs : List Stmt) → Each P xs → EachIn P k (in_stage k xs)
each_in P k [] h = tt
each_in P k (x ∷ xs) h = at (x.stage == k) refl (each_in P k xs h.1)
  where
    at : (b : Bool) → (x.stage == k) ≡ b → EachIn P k (in_stage k xs) → EachIn P k (if b then x ∷ in_stage k xs else in_stage k xs)
    at true e r = ((h.0, eqb-true x.stage k e), r)
    at false e r = r

asks_row : (p : Pipe) (ls : Locks) (k : ℕ) (x : Stmt) → IsTheReading p x → x.stage ≡ k → (r : Row) (w : Walk)
    → Each (AsksOf p k) w.asks → Each (AsksOf p k) (walk_after x.op r ls w).asks
asks_row p ls k x h e r w so = by x.op h
  where
    by : (op : Op) → IsTheReading p (record x { op = op }) → Each (AsksOf p k) (walk_after op r ls w).asks
    by (DelayedRead y m a) g = each_push (AsksOf p k) w.asks _ so (g ∙ ap (λ j. Some (record { stage = j; var = y })) e)
    by (Verify true args) g = so
    by (Verify false args) g = so
    by (Bind y a) g = so
    by (CombRead y m a) g = so
    by (Write m a b) g = so
    by (ReserveRead m a) g = so
    by (ReserveWrite m a) g = so
    by (Block m a) g = so
    by (Release m a) g = so
    by (Call args) g = so
    by (SpecCall args) g = so
    by SpecCheck g = so
    by SpecBarrier g = so
    by (AdviceBind y a) g = so
    by (AdviceRead y m a) g = so
    by (AdviceWrite m a b) g = so

asks_rows : (c : Circuit) (p : Pipe) (ls : Locks) (tickets : ℕ → Signal) (k : ℕ) (xs : List Stmt) → EachIn (IsTheReading p) k xs
    → (w w' : Walk) → Each (AsksOf p k) w.asks → AreRows c p ls tickets xs w w' → Each (AsksOf p k) w'.asks
asks_rows c p ls tickets k [] h w w' so rows = subst (λ (u : Walk). Each (AsksOf p k) u.asks) (sym rows) so
asks_rows c p ls tickets k (x ∷ xs) h w w' so rows =
    asks_rows c p ls tickets k xs h.1 (walk_after x.op rows.0 ls w) w' (asks_row p ls k x h.0.0 h.0.1 rows.0 w so) rows.2

-- each request of a stage that begins without any is of a delayed read of that stage
pub asks_of : (c : Circuit) (p : Pipe) (ls : Locks) (tickets : ℕ → Signal) (k : ℕ) (w w' : Walk) → Reads p → w.asks ≡ []
    → AreRows c p ls tickets (in_stage k p.stmts) w w' → Each (AsksOf p k) w'.asks
asks_of c p ls tickets k w w' reads none rows =
    asks_rows c p ls tickets k (in_stage k p.stmts) (each_in (IsTheReading p) k p.stmts reads.one) w w' (subst (Each (AsksOf p k)) (sym none) tt) rows

-- ports that are asked are open where those of this stage's nets are
pub opens_as : (frees : ℕ → Signal) (sides : Sides) (qs : List Ask) → Each (λ (q : Ask). (sides.port q.mem).free ≡ frees q.mem) qs
    → opens_by frees qs ≡ ports_open sides qs
opens_as frees sides [] h = refl
opens_as frees sides (q ∷ qs) h = ap₂ (λ f g. both (if_on q.on f) g) (sym h.0) (opens_as frees sides qs h.1)
