-- The delayed reads of a pipe as values of the program, and for whom their answers come.
use Rattle.std.specs.Prelude.{ℕ, zero, suc, ◌==◌, Bool, false, ◌&&◌, ◌||◌, Option, Some, None, if◌then◌else◌, length}
use Rattle.pdl_semantics.specs.Flat.{Op, Pipe}
use Rattle.pdl_semantics.specs.Forms.{on_delayed_read}
use Rattle.pdl_semantics.specs.Stages.{stage_at}
use Rattle.pdl_law_sides.specs.Slots.{leads_to}
use Rattle.pdl_law_sides.specs.Readings.{Reading, reading}
use Rattle.pdl_pipe_answers.specs.declared.readings.Reading as r_reading

-- the delayed read that a value of the program stands for
abbrev pub reading_view : r_reading.Reading → Reading
reading_view r = record { stage = r.stage; var = r.var }

-- the variable that an operation binds to an answer of this memory
abbrev pub bound_by : ℕ → Op → Option ℕ
bound_by m op = on_delayed_read (λ x n a. if n == m then Some x else None) None op

-- whether the answer of a delayed read may come for variable x in stage k
abbrev pub gets_one : Pipe → ℕ → ℕ → Option Reading → Bool
gets_one p k x None = false
gets_one p k x (Some r) = (r.var == x) && leads_to (stage_at p r.stage).next k

-- whether the answer of one of n memories, of which the first is m, may come for variable x in stage k
abbrev pub gets_some : Pipe → ℕ → ℕ → ℕ → ℕ → Bool
gets_some p k x zero m = false
gets_some p k x (suc n) m = gets_one p k x (reading p m) || gets_some p k x n (suc m)

-- whether the answer of some delayed memory may come for variable x in stage k
abbrev pub gets_answer : Pipe → ℕ → ℕ → Bool
gets_answer p k x = gets_some p k x (length p.mems) 0
