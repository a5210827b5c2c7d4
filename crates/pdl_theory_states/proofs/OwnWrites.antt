-- The pending writes of the live threads, of whatever guess.
use Rattle.std.proofs.Common.{◌≡◌, refl, sym, ap, ◌∙◌, ℕ, ◌≤◌, ◌<◌, Bool, true, false, List, [], ◌∷◌, ◌++◌, length, nat_le, arith, append-nil, le_refl, leb-true, leb-false}
use Rattle.pdl_semantics.specs.Flat.{Pipe}
use Rattle.pdl_semantics.specs.Stages.{reserve_stage}
use Rattle.pdl_semantics.specs.Machine.{State}
use Rattle.pdl_theory_simulation.proofs.FlowFacts.{Flows}
use Rattle.pdl_theory_turns.proofs.Lists.{pend}
use Rattle.pdl_theory_turns.proofs.OwnEntries.{pend_own}
use Rattle.pdl_theory_simulation.proofs.Stretches.{Behind, early, left_trunk}
use Rattle.pdl_theory_simulation.proofs.Seats.{Live, Falls, Ordered, pends}
use Rattle.pdl_theory_simulation.proofs.ThreadFacts.{Pair, pairs, EachPair, pair_both, pairs_each}
use Rattle.pdl_theory_simulation.proofs.Choices.{Seated}
use Rattle.pdl_theory_states.proofs.PendingLists.{Within, within_append, within_of, within_count, of_pend}
use Rattle.pdl_semantics.specs.PendingLists.{count_older}
use Rattle.pdl_word.specs.Each.{Each}

module _ (p : Pipe) (flows : Flows p) (st : State) where
  -- none up to the stage of the reserves
  pub none_pending : (m : ℕ) (l : Live) → Seated p st l → l.thread.stage ≤ reserve_stage p m → pend m l.number l.thread.entries ≡ []
  none_pending m l s h = pend_own m l.number l.thread.entries ∙ ap (pend m l.number) (early p flows l.env l.thread s.keeps_on m h)

  -- the live threads' pending writes of m are in thread order, at most one of each thread
  pub within_pends : (m n : ℕ) (ls : List Live) → Each (Seated p st) ls → Falls n ls → Within 0 n (pends m ls)
  within_pends m n [] s f = omega arith
  within_pends m n (l ∷ ls) s f =
      within_append 0 l.number n (pends m ls) _ (within_pends m l.number ls s.1 f.1)
      (within_of l.number n l.number _ (le_refl l.number) f.0 (of_pend m l.number l.thread.entries))

  -- a thread up to the stage of the reserves finds all pending writes older
  pub all_older : (m n : ℕ) (ls : List Live) → Each (Seated p st) ls → Ordered p ls → Falls n ls
      → EachPair (λ x. x.live.thread.stage ≤ reserve_stage p m → count_older x.live.number (pends m ls) ≡ length (pends m ls)) (pairs ls)
  all_older m n [] s o f = tt
  all_older m n (l ∷ ls) s o f = (
    (λ h. ap (λ l'. count_older l.number (pends m ls ++ l')) (none_pending m l s.0 h)
        ∙ ap (count_older l.number) (append-nil (pends m ls))
        ∙ within_count 0 l.number l.number (pends m ls) (within_pends m l.number ls s.1 f.1) (le_refl l.number)
        ∙ ap length (sym (append-nil (pends m ls)) ∙ ap (λ l'. pends m ls ++ l') (sym (none_pending m l s.0 h)))),
    pair_both (λ x b g h. at x h (none_pending m l s.0 (low x b h)) (g h)) (pairs ls)
        (pairs_each (λ k. Behind p l.thread.stage k.thread.stage) ls o.0) (all_older m l.number ls s.1 o.1 f.1),
  )
    where
      low : (x : Pair) → Behind p l.thread.stage x.live.thread.stage → x.live.thread.stage ≤ reserve_stage p m → l.thread.stage ≤ reserve_stage p m
      low x b h = by (nat_le l.thread.stage (reserve_stage p m)) refl
        where
          by : (t : Bool) → nat_le l.thread.stage (reserve_stage p m) ≡ t → l.thread.stage ≤ reserve_stage p m
          by true e = leb-true _ _ e
          by false e =
              absurd
              (let i : reserve_stage p m < x.live.thread.stage = left_trunk p _ _ b (reserve_stage p m) (flows.trunk_reserve m)
              (let j = leb-false _ _ e in omega arith) in
              omega arith)

      at : (x : Pair) → x.live.thread.stage ≤ reserve_stage p m → pend m l.number l.thread.entries ≡ []
          → count_older x.live.number (pends m ls) ≡ length (pends m ls)
          → count_older x.live.number (pends m ls ++ pend m l.number l.thread.entries) ≡ length (pends m ls ++ pend m l.number l.thread.entries)
      at x h e g =
          ap (λ l'. count_older x.live.number (pends m ls ++ l')) e
          ∙ ap (count_older x.live.number) (append-nil (pends m ls)) ∙ g
          ∙ ap length (sym (append-nil (pends m ls)) ∙ ap (λ l'. pends m ls ++ l') (sym e))
