-- The parts of a cycle by a plan: what each finds, and what they come to.
use Rattle.std.proofs.Common.{◌≡◌, ◌∙◌, sym, ap, subst, ℕ, ◌+◌, ◌≤◌, List, length, map, All, arith}
use Rattle.std.specs.Prelude.{slice_index}
use Rattle.pdl_netrun.specs.declared.walk.CellRun.{CellRun}
use Rattle.pdl_netrun.specs.declared.writes.PlannedWrite.{PlannedWrite}
use Rattle.pdl_netrun.specs.declared.cycle_plan.CyclePlan.{CyclePlan}
use Rattle.pdl_netrun.specs.Steps.{AreBelow, StepsFit, WriteFits, after_all, steps_of}
use Rattle.pdl_netrun.specs.Held.{HeldLists, PlanFits, after_plan, begun_with, put_at, walked_with}

module _ (bits : ℕ) (p : CyclePlan) (inputs : List ℕ) (h : HeldLists) (f : PlanFits bits p inputs h) where
  -- the registers have room behind the inputs
  pub put_room : (xs vs : List ℕ) → xs ≡ h.next → vs ≡ put_at 0 h.values inputs → p.first_reg + length xs ≤ length vs
  put_room xs vs e g = let a = ap length e in let b = ap length g in let r = f.regs in omega (arith, a, b, r)

  -- the cells have room behind the registers
  pub walk_room : (rs : List CellRun) (vs : List ℕ) → rs ≡ p.runs.items → vs ≡ begun_with p inputs h
      → p.first_cell + length (steps_of rs) ≤ length vs
  walk_room rs vs e g =
      let a = ap (λ (x : List CellRun). length (steps_of x)) e in let b = ap length g in let r = f.cells in omega (arith, a, b, r)

  -- the steps fit
  pub walk_fit : (rs : List CellRun) (vs : List ℕ) (ws : List (List ℕ)) → rs ≡ p.runs.items → vs ≡ begun_with p inputs h → ws ≡ h.arrays
      → StepsFit bits (steps_of rs) p.first_cell vs ws
  walk_fit rs vs ws e g k =
      subst (λ (x : List CellRun). StepsFit bits (steps_of x) p.first_cell vs ws) (sym e)
      (subst (λ (x : List ℕ). StepsFit bits (steps_of p.runs.items) p.first_cell x ws) (sym g)
      (subst (λ (x : List (List ℕ)). StepsFit bits (steps_of p.runs.items) p.first_cell (begun_with p inputs h) x) (sym k) f.fit))

  -- what the registers take next is there
  pub read_there : (ps vs : List ℕ) → ps ≡ p.nexts.items → vs ≡ walked_with p inputs h → AreBelow (length vs) ps
  read_there ps vs e g =
      subst (λ (x : List ℕ). AreBelow (length vs) x) (sym e) (subst (λ (x : List ℕ). AreBelow (length x) p.nexts.items) (sym g) f.nexts)

  -- there is a place for what each register takes next
  pub read_room : (ps next : List ℕ) → ps ≡ p.nexts.items → next ≡ h.next → length next ≡ length ps
  read_room ps next e g = ap length g ∙ f.count ∙ sym (ap length e)

  -- the writes fit
  pub write_fit : (ps : List PlannedWrite) (vs : List ℕ) (ws : List (List ℕ)) → ps ≡ p.writes.items → vs ≡ walked_with p inputs h → ws ≡ h.arrays
      → All (λ w. WriteFits w vs ws) ps
  write_fit ps vs ws e g k =
      subst (λ (x : List PlannedWrite). All (λ w. WriteFits w vs ws) x) (sym e)
      (subst (λ (x : List ℕ). All (λ w. WriteFits w x ws) p.writes.items) (sym g)
      (subst (λ (x : List (List ℕ)). All (λ w. WriteFits w (walked_with p inputs h) x) p.writes.items) (sym k) f.writes))

-- the three lists after a cycle
pub cycled : (p : CyclePlan) (inputs : List ℕ) (h : HeldLists) (vs next places : List ℕ) (arrays ws : List (List ℕ)) (ps : List PlannedWrite)
    → vs ≡ walked_with p inputs h → places ≡ p.nexts.items → next ≡ map (slice_index vs) places → ps ≡ p.writes.items → ws ≡ h.arrays
    → arrays ≡ after_all ps vs ws → record { values = vs; arrays = arrays; next = next } ≡ after_plan p inputs h
cycled p inputs h vs next places arrays ws ps e g n k l a =
    let next_is : next ≡ map (slice_index (walked_with p inputs h)) p.nexts.items =
    n ∙ ap (map (slice_index vs)) g ∙ ap (λ (x : List ℕ). map (slice_index x) p.nexts.items) e in
    let arrays_is : arrays ≡ after_all p.writes.items (walked_with p inputs h) h.arrays =
    a ∙ ap (λ (x : List PlannedWrite). after_all x vs ws) k ∙ ap (λ (x : List ℕ). after_all p.writes.items x ws) e
    ∙ ap (after_all p.writes.items (walked_with p inputs h)) l in
    ap (λ (x : List ℕ). record { values = x; arrays = arrays; next = next }) e
    ∙ ap (λ (x : List (List ℕ)). record { values = walked_with p inputs h; arrays = x; next = next }) arrays_is
    ∙ ap (λ (x : List ℕ). record { values = walked_with p inputs h; arrays = after_all p.writes.items (walked_with p inputs h) h.arrays; next = x }) next_is
