-- Which threads move, by the signals of the stages, from the last stage down.
use Rattle.std.proofs.Common.{◌≡◌, refl, sym, ap, ap₂, ◌∙◌, subst, ℕ, zero, suc, ◌+◌, ◌-◌, ◌<◌, ◌≤◌, Bool, true, false, ◌&&◌, ◌||◌, List, [], ◌∷◌, length, drop, Option, Some, None, is_some, is_none, arith, ◌==◌}
use Rattle.std.specs.Prelude.{slice_index, slice_index_or, if◌then◌else◌}
use Rattle.std.proofs.lemmas.Bool.{or_right}
use Rattle.pdl_word.specs.Words.{bit}
use Rattle.pdl_semantics.specs.Flat.{Next, Ends, Goes, Forks, Stage, Pipe}
use Rattle.pdl_semantics.specs.Stages.{stage_at, goes_to, last_stage, list_any}
use Rattle.pdl_semantics.specs.Machine as machine
use Rattle.pdl_semantics.specs.Machine.{Thread, Deeds, deeds, with_kept}
use Rattle.pdl_semantics.specs.Moves.{is_empty, next_stage}
use Rattle.pdl_net.specs.Circuit.{Circuit, State}
use Rattle.pdl_net.specs.Signal.{Signal}
use Rattle.pdl_net.specs.Well.{Suits}
use Rattle.pdl_machine_facts.specs.Slots.{LeadsOn, slot, here, later_acts, locks_ready, may_pass, slot_moves, stage_moves, may_enter}
use Rattle.pdl_machine_facts.specs.Cycle.{IsByStages}
use Rattle.pdl_machine_facts.proofs.StagewiseActs.{some_here}
use Rattle.pdl_law_parts.specs.Lives.{forks_by, lives_from}
use Rattle.pdl_law_parts.specs.Walk.{Locks, Walk, one, both}
use Rattle.pdl_law_parts.specs.Views.{Gates, View, free, way_on, moves_where}
use Rattle.pdl_law_parts.specs.Compiled.{IsLaid}
use Rattle.pdl_law_parts.specs.Rows.{HaveRows}
use Rattle.pdl_law_parts.specs.Advice.{IsAdvisedApart}
use Rattle.pdl_law_parts.specs.Served.{IsServed}
use Rattle.pdl_law_parts.specs.Stands.{StandsFor, IsEnv, IsSo, Follows, IsSeen}
use Rattle.pdl_law_parts.specs.Beside.{TellsGate}
use Rattle.pdl_law_parts.proofs.Signals.{mux_at, mux_by, both_at, one_is}
use Rattle.pdl_law_parts.proofs.AdvisedValues.{plain_env}
use Rattle.pdl_law_parts.proofs.StageLaw.{stage_follows}

-- a fork's variable lives in its stage
any_dropped : (test : Stage → Bool) (xs : List Stage) (k : ℕ)
    → k < length xs → test (slice_index_or xs k last_stage) ≡ true → list_any test (drop k xs) ≡ true
any_dropped test [] k l e = absurd (omega (arith, l))
any_dropped test (x ∷ xs) zero l e = ap (λ b. b || list_any test xs) e
any_dropped test (x ∷ xs) (suc k) l e = any_dropped test xs k (omega (arith, l)) e

-- the variable by which a stage forks lives from that stage on
lives_fork : (p : Pipe) (k x : ℕ) → k < length p.stages → forks_by (stage_at p k).next x ≡ true → lives_from p k x ≡ true
lives_fork p k x l e = or_right _ _ (any_dropped (λ (s : Stage). forks_by s.next x) p.stages k l e)

-- the variable by which a stage forks has its signal's value among those of the thread alone
pub fork_value : (p : Pipe) → IsAdvisedApart p → (k : ℕ) (s : State) (w : Walk) (d : Deeds) → k < length p.stages → IsSo p k s w d
    → (x : ℕ) → forks_by (stage_at p k).next x ≡ true → slice_index d.env x ≡ (w.vars x).value s
fork_value p apart k s w d l so x e = plain_env p k s w d x so (lives_fork p k x l e) (apart.forks k x e)

regroup : (r n a e : Bool) → (r && ((n && a) && e)) ≡ ((n && r) && (a && e))
regroup true true a e = refl
regroup true false a e = refl
regroup false true a e = refl
regroup false false a e = refl

-- who moves is ready
pub ready_of : (p : Pipe) (st : machine.State) (bits : List Bool) (k : ℕ) (t : Thread) → IsByStages p st bits
    → k < length p.stages → here p st bits k ≡ Some t → stage_moves p st bits k ≡ true
    → locks_ready p st t.number (deeds p st k t) ≡ true
ready_of p st bits k t by l h g = second (is_empty t.awaits) (locks_ready p st t.number (deeds p st k t)) _ (sym (by.goes_where k t l h) ∙ g)
  where
    second : (a b c : Bool) → ((a && b) && c) ≡ true → b ≡ true
    second true true c e = refl
    second true false c e = absurd (cc e)
    second false b c e = absurd (cc e)

-- each stage in a cycle, where the walks begin with the answers of the cycle and the gates tell what they should
module _ (p : Pipe) (ls : Locks) (vs : ℕ → View) (gates : Gates) (moves : ℕ → Signal) (c : Circuit)
    (made : IsLaid p ls vs gates moves c) (all : HaveRows p) (apart : IsAdvisedApart p) (leads : LeadsOn p)
    (s : State) (st : machine.State) (bits : List Bool) (suits : Suits c s) (stands : StandsFor p ls vs s st)
    (used : IsServed p st bits) (by : IsByStages p st bits)
    (answers : (k : ℕ) (t : Thread) → k < length p.stages → here p st bits k ≡ Some t → IsEnv p k s (vs k).begun.vars (with_kept t.advice (with_kept t.kept t.env)))
    (tells : (k : ℕ) (t : Thread) → k < length p.stages → here p st bits k ≡ Some t → TellsGate p vs gates moves s st bits k t) where
  follows_at : (k : ℕ) (t : Thread) → k < length p.stages → here p st bits k ≡ Some t → Follows p k s st t.number (vs k).ended (deeds p st k t)
  follows_at k t l h =
      let x = made.stages k l in
      stage_follows c p ls vs s st bits suits (λ m e. (made.locks m e).kind)
      (λ m e. (made.locks m e).room) (λ m e. (made.locks m e).room2) made.twice stands used all apart k t x.rows x.fresh x.guess_long (answers k t l h) h

  module _ (k : ℕ) (l : k < length p.stages) (later : (j : ℕ) → k < j → j < length p.stages → IsSeen p vs moves s st bits j) where
    free_is : (q : ℕ) → k < q → q < length p.stages → (free vs moves q).value s ≡ bit (is_none (slot st q) || stage_moves p st bits q)
    free_is q h i =
        let x = later q h i in
        mux_at s (vs q).valid (moves q) one (is_some (slot st q)) x.valid
        ∙ ap₂ (λ a b. if is_some (slot st q) then a else b) x.leaves (one_is s)
        ∙ table (slot st q) (stage_moves p st bits q)
      where
        table : (o : Option Thread) (b : Bool) → (if is_some o then bit b else 1) ≡ bit (is_none o || b)
        table None b = refl
        table (Some t) b = refl

    way_is : (t : Thread) → IsSo p k s (vs k).ended (deeds p st k t)
        → (way_on (stage_at p k).next (free vs moves) (vs k).ended).value s ≡ bit (may_enter p st bits (next_stage p k (deeds p st k t)))
    way_is t so = at (stage_at p k).next (λ q e. leads.up k q (deeds p st k t).env l e)
        (fork_value p apart k s (vs k).ended (deeds p st k t) l so)
      where
        env : List ℕ
        env = (deeds p st k t).env

        at : (n : Next) → ((q : ℕ) → goes_to n env ≡ Some q → (k < q) × (q < length p.stages))
            → ((x : ℕ) → forks_by n x ≡ true → slice_index env x ≡ ((vs k).ended.vars x).value s)
            → (way_on n (free vs moves) (vs k).ended).value s ≡ bit (may_enter p st bits (goes_to n env))
        at Ends up f = one_is s
        at (Goes to) up f = let g = up to refl in free_is to g.0 g.1
        at (Forks x a b) up f =
            mux_by s ((vs k).ended.vars x) (free vs moves a) (free vs moves b)
            ∙ ap (λ n. if n == 1 then (free vs moves a).value s else (free vs moves b).value s) (sym (f x (Rattle.std.proofs.Common.eq-eqb x x refl)))
            ∙ choose (slice_index env x == 1) (λ q e. up q e)
          where
            choose : (t : Bool) → ((q : ℕ) → Some (if t then a else b) ≡ Some q → (k < q) × (q < length p.stages))
                → (if t then (free vs moves a).value s else (free vs moves b).value s) ≡ bit (may_enter p st bits (Some (if t then a else b)))
            choose true g = let i = g a refl in free_is a i.0 i.1
            choose false g = let i = g b refl in free_is b i.0 i.1

    leaves_is : (moves k).value s ≡ bit (stage_moves p st bits k)
    leaves_is = (made.stages k l).leaves s suits ∙ at (here p st bits k) refl
      where
        way : Signal
        way = way_on (stage_at p k).next (free vs moves) (vs k).ended

        valid : (vs k).valid.value s ≡ bit (is_some (here p st bits k))
        valid = stands.valid k l ∙ ap bit (sym (some_here p st bits k))

        at : (o : Option Thread) → here p st bits k ≡ o → (moves_where p vs gates.gate moves k).value s ≡ bit (stage_moves p st bits k)
        at None e =
            both_at s (vs k).valid (both (vs k).ended.ready (both (gates.gate k) way)) false true (valid ∙ ap (λ o. bit (is_some o)) e) (λ z. absurd (cc z))
            ∙ ap (λ o. bit (slot_moves p st bits k o)) (sym e)
        at (Some t) e =
            let d = deeds p st k t in
            let f = follows_at k t l e in
            let ready = locks_ready p st t.number d in
            let passes = may_pass p st bits (later_acts p st bits k) k d in
            let enters = may_enter p st bits (next_stage p k d) in
            let none = is_empty t.awaits in
            both_at s (vs k).valid (both (vs k).ended.ready (both (gates.gate k) way)) true (ready && ((none && passes) && enters))
            (valid ∙ ap (λ o. bit (is_some o)) e) (λ y.
            both_at s (vs k).ended.ready (both (gates.gate k) way) ready ((none && passes) && enters) f.ready (λ z.
            both_at s (gates.gate k) way (none && passes) enters (tells k t l e f z later) (λ u. way_is t (f.so z))))
            ∙ ap bit (regroup ready none passes enters)
            ∙ ap bit (sym (by.goes_where k t l e))

    seen_here : IsSeen p vs moves s st bits k
    seen_here = record { valid = stands.valid k l; follows = λ t e. follows_at k t l e; leaves = leaves_is }

  -- the stages from k on
  seen_from : (n k : ℕ) → k + n ≡ length p.stages → (j : ℕ) → k ≤ j → j < length p.stages → IsSeen p vs moves s st bits j
  seen_from zero k e j i l = absurd (omega (arith, e, i, l))
  seen_from (suc n) k e j i l = at (k == j) refl (λ j i l. seen_from n (suc k) (omega (arith, e)) j i l)
    where
      at : (b : Bool) → (k == j) ≡ b → ((j : ℕ) → suc k ≤ j → j < length p.stages → IsSeen p vs moves s st bits j) → IsSeen p vs moves s st bits j
      at true f later =
          subst (λ i. IsSeen p vs moves s st bits i) (Rattle.std.proofs.lemmas.Bool.eqb-true k j f) (seen_here k (omega (arith, e)) (λ i h m. later i h m))
      at false f later = later j (let z = Rattle.std.proofs.lemmas.Bool.eqb-false k j f in omega arith) l

  -- each stage is seen to be as the machine's: whether it holds a thread, what that does, and whether it moves
  pub all_seen : (j : ℕ) → j < length p.stages → IsSeen p vs moves s st bits j
  all_seen j l = seen_from (length p.stages) 0 (omega arith) j (omega arith) l
