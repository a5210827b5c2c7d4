-- Where the threads of the next state come from, by their stages.
use Rattle.std.proofs.Common.{◌≡◌, refl, sym, ap, ap₂, ◌∙◌, ℕ, ◌<◌, ◌≤◌, ◌⊎◌, inl, inr, ⊎_elim, ne_eqb, Bool, true, false, ◌&&◌, ◌||◌, List, [], ◌∷◌, length, Option, Some, None, is_none, arith, ◌==◌}
use Rattle.std.specs.Prelude.{if◌then◌else◌}
use Rattle.std.proofs.lemmas.Bool.{eqb-true, and_parts, false≢true, cases_lt}
use Rattle.std.proofs.lemmas.List.{get_or_past}
use Rattle.pdl_semantics.specs.Flat.{Pipe}
use Rattle.pdl_semantics.specs.Machine.{Thread, State, deeds}
use Rattle.pdl_semantics.specs.Moves.{next_stage, is_empty}
use Rattle.pdl_semantics.specs.Cycle.{cycle, squasher, is_kept, if_kept, or_then, born_thread, child_of, thread_after, is_stage}
use Rattle.pdl_machine_facts.specs.Slots.{slot, here, later_acts, locks_ready, may_pass, may_enter, stage_moves, moving, act_at, thread_into, passing_thread, first_of, ways, arriving_thread, staying_thread}
use Rattle.pdl_machine_facts.specs.Cycle.{newborn, IsByStages}

-- a thread of the next state is new, or moved there out of an earlier stage, or stayed
pub data CameFrom (p : Pipe) (st : State) (bits : List Bool) (q : ℕ) (u : Thread) : Type 0 where
  born : u.number ≡ st.next → CameFrom p st bits q u
  moved : (j : ℕ) (t : Thread) → here p st bits j ≡ Some t → stage_moves p st bits j ≡ true
      → next_stage p j (deeds p st j t) ≡ Some q → u ≡ thread_after (act_at p st j t) → CameFrom p st bits q u
  stayed : here p st bits q ≡ Some u → stage_moves p st bits q ≡ false → CameFrom p st bits q u

module _ (p : Pipe) (st : State) (bits : List Bool) (by : IsByStages p st bits) where
  to_stage : (o : Option ℕ) (q : ℕ) → is_stage q o ≡ true → o ≡ Some q
  to_stage None q e = absurd (cc e)
  to_stage (Some r) q e = ap (λ i. Some i) (eqb-true r q e)

  from_ways : (q : ℕ) (u : Thread) (js : List ℕ) → first_of p st bits q js ≡ Some u → CameFrom p st bits q u
  from_ways q u [] e = absurd (cc e)
  from_ways q u (j ∷ js) e = at (stage_moves p st bits j) (here p st bits j) refl refl e (from_ways q u js)
    where
      at : (b : Bool) (o : Option Thread) → stage_moves p st bits j ≡ b → here p st bits j ≡ o
          → or_then (thread_into p st q j b o) (first_of p st bits q js) ≡ Some u
          → (first_of p st bits q js ≡ Some u → CameFrom p st bits q u) → CameFrom p st bits q u
      at false o f g h rest = rest h
      at true None f g h rest = rest h
      at true (Some t) f g h rest = to (is_stage q (next_stage p j (deeds p st j t))) refl h
        where
          to : (b : Bool) → is_stage q (next_stage p j (deeds p st j t)) ≡ b
              → or_then (if b then Some (thread_after (act_at p st j t)) else None) (first_of p st bits q js) ≡ Some u
              → CameFrom p st bits q u
          to true i k = moved j t g f (to_stage (next_stage p j (deeds p st j t)) q i) (sym (some_is k))
            where
              some_is : {a b : Thread} → Some a ≡ Some b → a ≡ b
              some_is z = cc z
          to false i k = rest k

  either : (a b : Option Thread) (u : Thread) → or_then a b ≡ Some u → (a ≡ Some u) ⊎ (b ≡ Some u)
  either None b u e = inr e
  either (Some t) b u e = inl e

  kept_is : (sq : Option ℕ) (o : Option Thread) (u : Thread) → if_kept sq o ≡ Some u → o ≡ Some u
  kept_is sq None u e = absurd (cc e)
  kept_is sq (Some t) u e = at (is_kept sq t.number) e
    where
      at : (b : Bool) → (if b then Some t else None) ≡ Some u → Some t ≡ Some u
      at true f = f
      at false f = absurd (cc f)

  new_number : (q : ℕ) (u : Thread) → newborn p st bits q ≡ Some u → u.number ≡ st.next
  new_number q u e = at (q == 0) (child_of (moving p st bits)) e
    where
      at : (b : Bool) (c : Option (List ℕ)) → (if b then born_thread p st.next c else None) ≡ Some u → u.number ≡ st.next
      at false c f = absurd (cc f)
      at true None f = absurd (cc f)
      at true (Some args) f = sym (ap (λ (v : Thread). v.number) (some_is f))
        where
          some_is : {a b : Thread} → Some a ≡ Some b → a ≡ b
          some_is z = cc z

  -- a thread of the next state stands in one of the pipe's stages
  pub stage_low : (q : ℕ) (u : Thread) → slot (cycle p st bits) q ≡ Some u → q < length p.stages
  stage_low q u e = ⊎_elim
      (λ (h : q < length p.stages). h)
      (λ (h : length p.stages ≤ q). absurd (none_some (sym (get_or_past (cycle p st bits).stages q None (let n = by.count in omega (arith, n, h))) ∙ e)))
      (cases_lt q (length p.stages))
    where
      none_some : None ≡ Some u → ⊥
      none_some h = cc h

  -- each thread of the next state is new, or moved there out of an earlier stage, or stayed
  pub came_from : (q : ℕ) (u : Thread) → slot (cycle p st bits) q ≡ Some u → CameFrom p st bits q u
  came_from q u e =
      at
      (either (newborn p st bits q)
      (if_kept (squasher (moving p st bits)) (or_then (arriving_thread p st bits q) (staying_thread p st bits q))) u (sym (by.next q (stage_low q u e)) ∙ e))
    where
      still : (b : Bool) → stage_moves p st bits q ≡ b → (if b then None else here p st bits q) ≡ Some u → CameFrom p st bits q u
      still true f g = absurd (cc g)
      still false f g = stayed g f

      late : (arriving_thread p st bits q ≡ Some u) ⊎ (staying_thread p st bits q ≡ Some u) → CameFrom p st bits q u
      late (inl f) = from_ways q u (ways p q) f
      late (inr f) = still (stage_moves p st bits q) refl f

      at : (newborn p st bits q ≡ Some u)
          ⊎ (if_kept (squasher (moving p st bits)) (or_then (arriving_thread p st bits q) (staying_thread p st bits q)) ≡ Some u)
          → CameFrom p st bits q u
      at (inl f) = born (new_number q u f)
      at (inr f) =
          late
          (either (arriving_thread p st bits q)
          (staying_thread p st bits q) u (kept_is (squasher (moving p st bits)) (or_then (arriving_thread p st bits q) (staying_thread p st bits q)) u f))

  -- WHO STAYS

  module _ (count : length st.stages ≡ length p.stages) (q : ℕ) (t : Thread) (h : here p st bits q ≡ Some t) (still : stage_moves p st bits q ≡ false) where
    occupied : is_none (slot st q) ≡ false
    occupied = at (slot st q) refl
      where
        none_some : None ≡ Some t → ⊥
        none_some i = cc i

        at : (o : Option Thread) → slot st q ≡ o → is_none o ≡ false
        at None e = absurd (none_some (sym (ap (Rattle.pdl_machine_facts.specs.Slots.with_now p st bits) e) ∙ h))
        at (Some u) e = refl

    low_of : (j : ℕ) (u : Thread) → here p st bits j ≡ Some u → j < length p.stages
    low_of j u e = ⊎_elim
        (λ (l : j < length p.stages). l)
        (λ (l : length p.stages ≤ j). absurd
        (none_some (sym (ap (Rattle.pdl_machine_facts.specs.Slots.with_now p st bits) (get_or_past st.stages j None (omega (arith, l, count)))) ∙ e)))
        (cases_lt j (length p.stages))
      where
        none_some : None ≡ Some u → ⊥
        none_some i = cc i

    none_enters : (j : ℕ) → passing_thread p st bits q j ≡ None
    none_enters j = at (stage_moves p st bits j) (here p st bits j) refl refl
      where
        at : (b : Bool) (o : Option Thread) → stage_moves p st bits j ≡ b → here p st bits j ≡ o → thread_into p st q j b o ≡ None
        at false o f g = refl
        at true None f g = refl
        at true (Some u) f g = to (is_stage q (next_stage p j (deeds p st j u))) refl
          where
            enters : next_stage p j (deeds p st j u) ≡ Some q → ⊥
            enters e =
                let m = sym (by.goes_where j u (low_of j u g) g) ∙ f in
                let x = and_parts (is_empty u.awaits && locks_ready p st u.number (deeds p st j u)) _ m in
                let y = and_parts (may_pass p st bits (later_acts p st bits j) j (deeds p st j u)) _ x.1 in
                false≢true (sym (ap (may_enter p st bits) e ∙ ap₂ (λ a b. a || b) occupied still) ∙ y.1)

            to : (b : Bool) → is_stage q (next_stage p j (deeds p st j u)) ≡ b → (if b then Some (thread_after (act_at p st j u)) else None) ≡ None
            to false i = refl
            to true i = absurd (enters (to_stage (next_stage p j (deeds p st j u)) q i))

    none_among : (js : List ℕ) → first_of p st bits q js ≡ None
    none_among [] = refl
    none_among (j ∷ js) = ap (λ o. or_then o (first_of p st bits q js)) (none_enters j) ∙ none_among js

    -- a thread that doesn't move and isn't removed stays
    pub stays : 0 < q → is_kept (squasher (moving p st bits)) t.number ≡ true → slot (cycle p st bits) q ≡ Some t
    stays above kept =
        by.next q (low_of q t h)
        ∙ ap₂
        (λ b o. or_then (if b then born_thread p st.next (child_of (moving p st bits)) else None)
        (if_kept (squasher (moving p st bits)) (or_then o (staying_thread p st bits q))))
        (ne_eqb q 0 (λ z. omega (arith, z, above))) (none_among (ways p q))
        ∙ ap₂ (λ b o. if_kept (squasher (moving p st bits)) (if b then None else o)) still h
        ∙ ap (λ b. if b then Some t else None) kept
