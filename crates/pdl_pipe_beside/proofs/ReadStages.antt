-- The stages of delayed reads lead on.
use Rattle.std.proofs.Common.{◌≡◌, ℕ, suc, ◌<◌, ◌≤◌, ◌==◌, ◌∙◌, Bool, true, false, ◌&&◌, List, [], ◌∷◌, length, refl, sym, ap, arith}
use Rattle.std.specs.Prelude.{Option, Some, None, is_none, not, if◌then◌else◌}
use Rattle.std.proofs.lemmas.Bool.{eqb-true, false≢true}
use Rattle.pdl_word.proofs.Numbers.{eqb_self}
use Rattle.pdl_semantics.specs.Flat as flat
use Rattle.pdl_semantics.specs.Flat.{Op, Stmt, Next, Pipe}
use Rattle.pdl_semantics.specs.Stages.{in_stage, stage_at, goes_to}
use Rattle.pdl_semantics.specs.Sound.{is_fetch}
use Rattle.pdl_theory_turns.specs.Scans.{none_of}
use Rattle.pdl_machine_inflight.specs.Slots.{LeadsOn}
use Rattle.pdl_machine_inflight.specs.Readings.{Reading, Reads, reading, reading_in, places_of}
use Rattle.pdl_machine_inflight.proofs.ReadingFacts.{place_leads}
use Rattle.pdl_pipe_answers.specs.Readings.{bound_by}
use Rattle.pdl_pipe_answers.proofs.ReadingSteps.{found_or, reading_next}
use Rattle.pdl_pipe_beside.specs.Ports.{ReadsLeadOn}

bound_fetches : (m : ℕ) (op : Op) (x : ℕ) → bound_by m op ≡ Some x → is_fetch op ≡ true
bound_fetches m (flat.Bind y e) x h = absurd (cc h)
bound_fetches m (flat.CombRead y n a) x h = absurd (cc h)
bound_fetches m (flat.DelayedRead y n a) x h = refl
bound_fetches m (flat.Write n a e) x h = absurd (cc h)
bound_fetches m (flat.ReserveRead n a) x h = absurd (cc h)
bound_fetches m (flat.ReserveWrite n a) x h = absurd (cc h)
bound_fetches m (flat.Block n a) x h = absurd (cc h)
bound_fetches m (flat.Release n a) x h = absurd (cc h)
bound_fetches m (flat.Call args) x h = absurd (cc h)
bound_fetches m (flat.SpecCall args) x h = absurd (cc h)
bound_fetches m (flat.Verify last args) x h = absurd (cc h)
bound_fetches m flat.SpecCheck x h = absurd (cc h)
bound_fetches m flat.SpecBarrier x h = absurd (cc h)
bound_fetches m (flat.AdviceBind y e) x h = absurd (cc h)
bound_fetches m (flat.AdviceRead y n a) x h = absurd (cc h)
bound_fetches m (flat.AdviceWrite n a e) x h = absurd (cc h)

none_later : (k : ℕ) (s : Stmt) (ss : List Stmt) → none_of is_fetch (in_stage k (s ∷ ss)) ≡ true → none_of is_fetch (in_stage k ss) ≡ true
none_later k s ss h = at (s.stage == k) h
  where
    rest : (b : Bool) → (not b && none_of is_fetch (in_stage k ss)) ≡ true → none_of is_fetch (in_stage k ss) ≡ true
    rest true e = absurd (false≢true e)
    rest false e = e

    at : (b : Bool) → none_of is_fetch (if b then s ∷ in_stage k ss else in_stage k ss) ≡ true → none_of is_fetch (in_stage k ss) ≡ true
    at true e = rest (is_fetch s.op) e
    at false e = e

none_here : (s : Stmt) (ss : List Stmt) → is_fetch s.op ≡ true → none_of is_fetch (in_stage s.stage (s ∷ ss)) ≡ false
none_here s ss e =
    ap (λ (b : Bool). none_of is_fetch (if b then s ∷ in_stage s.stage ss else in_stage s.stage ss)) (eqb_self s.stage)
    ∙ ap (λ b. not b && none_of is_fetch (in_stage s.stage ss)) e

-- where a memory is read delayed stands a delayed read
read_stands : (m : ℕ) (ss : List Stmt) (r : Reading) → reading_in m ss ≡ Some r → none_of is_fetch (in_stage r.stage ss) ≡ true → ⊥
read_stands m [] r e h = absurd (cc e)
read_stands m (s ∷ ss) r e h = at (bound_by m s.op) refl (sym (reading_next m s ss) ∙ e) (read_stands m ss r)
  where
    at : (o : Option ℕ) → bound_by m s.op ≡ o → found_or o s.stage (reading_in m ss) ≡ Some r
        → (reading_in m ss ≡ Some r → none_of is_fetch (in_stage r.stage ss) ≡ true → ⊥) → ⊥
    at None b f later = later f (none_later r.stage s ss h)
    at (Some x) b f later =
        let one : (Some s.stage) ≡ (Some r.stage) = cc f in
        let here : s.stage ≡ r.stage = cc one in
        false≢true (sym (none_here s ss (bound_fetches m s.op x b)) ∙ ap (λ k. none_of is_fetch (in_stage k (s ∷ ss))) here ∙ h)

-- what the rules give: delayed reads are of memories of the pipe, in its stages, and none of them in the last one
pub reads_lead_on : (p : Pipe) → LeadsOn p → Reads p
    → ((m : ℕ) (r : Reading) → reading p m ≡ Some r → r.stage < length p.stages)
    → ((s : ℕ) → suc s ≡ length p.stages → none_of is_fetch (in_stage s p.stmts) ≡ true) → ReadsLeadOn p
reads_lead_on p leads reads inside unread = record {
  known = λ m r is. (reads.known m r is).0;
  stage = inside;
  to = λ m r is i l. let z = place_leads (stage_at p r.stage).next i l in (leads.up r.stage _ z.0 (inside m r is) z.1).1;
  onward = λ m r is. at m r is (stage_at p r.stage).next refl;
}
  where
    at : (m : ℕ) (r : Reading) → reading p m ≡ Some r → (n : Next) → (stage_at p r.stage).next ≡ n → 1 ≤ length (places_of n)
    at m r is flat.Ends e =
        let over : true ≡ (suc r.stage == length p.stages) = sym (ap (λ (n : Next). is_none (goes_to n [])) e) ∙ leads.ends r.stage [] (inside m r is) in
        absurd (read_stands m p.stmts r is (unread r.stage (eqb-true (suc r.stage) (length p.stages) (sym over))))
    at m r is (flat.Goes to) e = omega arith
    at m r is (flat.Forks x first second) e = omega arith
