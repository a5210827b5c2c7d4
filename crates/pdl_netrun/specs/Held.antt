-- What a simulator holds, whatever the size of its words, and what a cycle does to it.
use Rattle.std.specs.Prelude.{◌≡◌, ℕ, ◌+◌, ◌^◌, ◌<◌, ◌≤◌, List, ◌++◌, length, map, take, drop, replicate, slice_index, All}
use Rattle.pdl_word.specs.Words.{widest}
use Rattle.pdl_net.specs.declared.Net.TheVariants.{Cell as CellNet}
use Rattle.pdl_net.specs.Circuit.{Circuit, inputs_of, reg_at, array_at}
use Rattle.pdl_net.specs.Meaning.{signal}
use Rattle.pdl_netrun.specs.declared.held.WordLists.{WordLists}
use Rattle.pdl_netrun.specs.declared.held.HeldWords.{HeldWords}
use Rattle.pdl_netrun.specs.declared.held.HeldWords.TheVariants.{Narrow, Wide}
use Rattle.pdl_netrun.specs.declared.cycle_plan.CyclePlan.{CyclePlan}
use Rattle.pdl_netrun.specs.Steps.{AreBelow, StepsFit, WriteFits, after_all, after_steps, array_words, steps_of}
use Rattle.pdl_netrun.specs.Order.{first_place, place, cell_at}
use Rattle.pdl_netrun.specs.Plan.{held_at_start, planned_writes, step_of_cell}

-- the values of the nets in the last cycle, the words of each array, and the values of the registers in the next cycle
pub record HeldLists : Type 0 where
  pub values : List ℕ
  pub arrays : List (List ℕ)
  pub next : List ℕ

-- words of one size as numbers
abbrev pub lists_of : WordLists ℕ → HeldLists
lists_of l = record { values = l.values.items; arrays = array_words l.arrays.items; next = l.next.items }

-- words of either size as numbers
abbrev pub held_lists : HeldWords → HeldLists
held_lists (Narrow l) = lists_of l
held_lists (Wide l) = lists_of l

-- how many bits its words have room for
abbrev pub bits_of : HeldWords → ℕ
bits_of (Narrow l) = 64
bits_of (Wide l) = widest

-- inputs, registers, cells and arrays have at most so many bits
pub record AreWithin (bits : ℕ) (c : Circuit) : Type 0 where
  pub inputs : (i : ℕ) → i < length (inputs_of c) → slice_index (inputs_of c) i ≤ bits
  pub regs : (r : ℕ) → r < length c.regs → (reg_at c r).width ≤ bits
  pub cells : (k : ℕ) → k < length c.cells → (signal c (CellNet k)).width ≤ bits
  pub arrays : (m : ℕ) → m < length c.arrays → (array_at c m).width ≤ bits

-- all these numbers have at most so many bits
abbrev pub AreSmall : ℕ → List ℕ → Type 0
AreSmall bits xs = All (λ x. x < 2 ^ bits) xs

-- so have all words that are held
pub record ListsFit (bits : ℕ) (h : HeldLists) : Type 0 where
  pub values : AreSmall bits h.values
  pub arrays : All (AreSmall bits) h.arrays
  pub next : AreSmall bits h.next

-- THE START

-- the list of values before the first cycle
abbrev pub first_values : Circuit → List ℕ → List ℕ
first_values c order = replicate (first_place c) 0 ++ map (λ k. held_at_start (cell_at c k)) order

-- what is held before the first cycle
abbrev pub first_lists : Circuit → List ℕ → List ℕ → List (List ℕ) → HeldLists
first_lists c order regs arrays = record { values = first_values c order; arrays = arrays; next = regs }

-- A CYCLE

-- a plan is that of a circuit, by an order of its cells with these places
pub record IsPlan (c : Circuit) (order places : List ℕ) (p : CyclePlan) : Type 0 where
  pub first_reg : p.first_reg ≡ length (inputs_of c)
  pub first_cell : p.first_cell ≡ first_place c
  pub runs : steps_of p.runs.items ≡ map (λ k. step_of_cell c places (cell_at c k)) order
  pub nexts : p.nexts.items ≡ map (λ r. place c places r.next) c.regs
  pub writes : p.writes.items ≡ planned_writes c places

-- a list with words put in from a place on
abbrev pub put_at : ℕ → List ℕ → List ℕ → List ℕ
put_at n vs xs = take n vs ++ xs ++ drop (n + length xs) vs

-- the values as a cycle begins: those of the inputs and of the registers are put in
abbrev pub begun_with : CyclePlan → List ℕ → HeldLists → List ℕ
begun_with p inputs h = put_at p.first_reg (put_at 0 h.values inputs) h.next

-- the values of all nets in a cycle
abbrev pub walked_with : CyclePlan → List ℕ → HeldLists → List ℕ
walked_with p inputs h = after_steps (steps_of p.runs.items) p.first_cell (begun_with p inputs h) h.arrays

-- what is held after a cycle with these inputs
abbrev pub after_plan : CyclePlan → List ℕ → HeldLists → HeldLists
after_plan p inputs h = record {
  values = walked_with p inputs h;
  arrays = after_all p.writes.items (walked_with p inputs h) h.arrays;
  next = map (slice_index (walked_with p inputs h)) p.nexts.items;
}

-- a cycle with these inputs finds room and words of no more than so many bits, wherever it puts and takes them
pub record PlanFits (bits : ℕ) (p : CyclePlan) (inputs : List ℕ) (h : HeldLists) : Type 0 where
  pub small : AreSmall bits inputs
  pub front : 0 + length inputs ≤ length h.values
  pub regs : p.first_reg + length h.next ≤ length (put_at 0 h.values inputs)
  pub cells : p.first_cell + length (steps_of p.runs.items) ≤ length (begun_with p inputs h)
  pub fit : StepsFit bits (steps_of p.runs.items) p.first_cell (begun_with p inputs h) h.arrays
  pub nexts : AreBelow (length (walked_with p inputs h)) p.nexts.items
  pub count : length h.next ≡ length p.nexts.items
  pub writes : All (λ w. WriteFits w (walked_with p inputs h) h.arrays) p.writes.items
