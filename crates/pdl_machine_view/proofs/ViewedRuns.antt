-- A machine that runs on, cycle by cycle, as it is viewed.
use Rattle.std.proofs.Common.{◌≡◌, refl, sym, ap, ◌∙◌, subst, ℕ, suc, ◌+◌, ◌-◌, ◌*◌, ◌<◌, ◌≤◌, List, [], ◌∷◌, ◌++◌, append_assoc, map, length, codes, decimal, arith}
use Rattle.std.specs.Prelude.{Bool}
use Rattle.pdl_semantics.specs.Flat.{Pipe, arrays_of}
use Rattle.pdl_semantics.specs.Flatten.{flat}
use Rattle.pdl_semantics.specs.Machine.{State}
use Rattle.pdl_semantics.specs.Moves.{all_acts}
use Rattle.pdl_semantics.specs.Cycle as stated
use Rattle.pdl_semantics.specs.Cycle.{letters, ports, turns_from, view}
use Rattle.pdl_semantics.specs.Lines.{view_from}
use Rattle.pdl_syntax_tree.specs.declared.tree.Pipe as r_pipe
use Rattle.pdl_syntax_tree.specs.View.{pipe_view}
use Rattle.pdl_image.specs.Delays.{bits_in}
use Rattle.pdl_netrun_lines.specs.Printed.{replies_from}
use Rattle.pdl_machine_facts.specs.Ports.{delayed_count, replies_of, whole_values}
use Rattle.pdl_machine.specs.Running.{Running, flat_of, state_of, replies_to}
use Rattle.pdl_machine_view.specs.Viewed.{view_text}
use Rattle.pdl_machine_view.specs.Lines.{letters_from, cycle_line, lines_from}
use Rattle.pdl_machine_view.proofs.Letters.{letters_shown, has_stages}

-- a line, as all lines have it
line_is : (number : ℕ) (ls rest : List ℕ)
    → decimal number ++ codes " " ++ ls ++ codes "\n" ++ rest ≡ ((decimal number ++ codes " ") ++ (ls ++ codes "\n")) ++ rest
line_is number ls rest = ap (λ l. l ++ rest) (append_assoc (decimal number ++ codes " ") ls (codes "\n"))

-- the line of the next turn, and those after it
view_next : (p : Pipe) (st : State) (number : ℕ) (bits : List Bool) (schedule : List (List Bool))
    → view_from number (view (turns_from p st (bits ∷ schedule)))
    ≡ decimal number ++ codes " "
    ++ letters (ports p st (all_acts p st bits)).valid (ports p st (all_acts p st bits)).moves ++ codes "\n"
    ++ view_from (suc number) (view (turns_from p (stated.cycle p st bits) schedule))
view_next p st number bits schedule = refl

-- the replies of the next cycle, and those after it
replies_next : (f : ℕ → List Bool) (delays : List ℕ) (done cycles : ℕ)
    → done < cycles
    → map f (replies_from delays (done + 1) (cycles - done))
    ≡ f (bits_in delays (done + 1)) ∷ map f (replies_from delays (done + 1 + 1) (cycles - (done + 1)))
replies_next f delays done cycles l = let more : cycles - done ≡ suc (cycles - (done + 1)) = omega arith in rw more refl

-- the lines that are left of a view of so many cycles, where some are done
abbrev pub left : Pipe → State → List ℕ → ℕ → ℕ → List ℕ
left p st delays done cycles = lines_from (done + 1) p st (replies_from delays (done + 1) (cycles - done))

module _ (p : Pipe) (st next : State) (bits : ℕ) (shown : List ℕ) (state : next ≡ stated.cycle p st (replies_of (delayed_count p) bits))
    (seen : shown ≡ whole_values p (ports p st (all_acts p st (replies_of (delayed_count p) bits)))) where
  -- one cycle further
  further : (delays : List ℕ) (done cycles stages : ℕ) → bits ≡ bits_in delays (done + 1) → done < cycles → stages ≡ length p.stages
      → left p st delays done cycles ≡ cycle_line (done + 1) shown stages ++ left p next delays (done + 1) cycles
  further delays done cycles stages is l count =
      let f = replies_of (delayed_count p) in
      let these = all_acts p st (f bits) in
      let after = replies_from delays (done + 1 + 1) (cycles - (done + 1)) in
      let number : suc (done + 1) ≡ done + 1 + 1 = omega arith in
      let own : letters (ports p st these).valid (ports p st these).moves ≡ letters_from shown 0 stages =
      sym (letters_shown p st these) ∙ ap (λ k. letters_from (whole_values p (ports p st these)) 0 k) (sym count)
      ∙ ap (λ vs. letters_from vs 0 stages) (sym seen) in
      let first : map f (replies_from delays (done + 1) (cycles - done)) ≡ f bits ∷ map f after =
      replies_next f delays done cycles l ∙ ap (λ b. f b ∷ map f after) (sym is) in
      ap (λ schedule. view_from (done + 1) (view (turns_from p st schedule))) first
      ∙ view_next p st (done + 1) (f bits) (map f after)
      ∙ ap (λ ls. decimal (done + 1) ++ codes " " ++ ls ++ codes "\n" ++ lines_from (suc (done + 1)) p (stated.cycle p st (f bits)) after) own
      ∙ line_is (done + 1) (letters_from shown 0 stages) (lines_from (suc (done + 1)) p (stated.cycle p st (f bits)) after)
      ∙ ap (λ n. cycle_line (done + 1) shown stages ++ lines_from n p (stated.cycle p st (f bits)) after) number
      ∙ ap (λ (s : State). cycle_line (done + 1) shown stages ++ lines_from (done + 1 + 1) p s after) (sym state)

  -- the ports of all stages are shown
  stages_in : 2 * length p.stages ≤ length shown
  stages_in = subst (λ vs. 2 * length p.stages ≤ length vs) (sym seen) (has_stages p st (all_acts p st (replies_of (delayed_count p) bits)))

module _ (old new : Running) (bits : ℕ) (state : state_of new ≡ stated.cycle (flat_of old) (state_of old) (replies_to old bits))
    (seen : new.shown ≡ whole_values (flat_of old) (ports (flat_of old) (state_of old) (all_acts (flat_of old) (state_of old) (replies_to old bits))))
    (pipe : new.pipe ≡ old.pipe) where
  -- at least two values are shown for each stage
  pub stages_there : 2 * length (flat_of old).stages ≤ length new.shown
  stages_there = stages_in (flat_of old) (state_of old) (state_of new) bits new.shown state seen

  -- the lines that are left before a cycle are the line of the cycle, and those that are left after it
  pub cycle_step : (delays : List ℕ) (done cycles stages : ℕ) → bits ≡ bits_in delays (done + 1) → done < cycles → stages ≡ length (flat_of old).stages
      → left (flat_of old) (state_of old) delays done cycles
      ≡ cycle_line (done + 1) new.shown stages ++ left (flat_of new) (state_of new) delays (done + 1) cycles
  cycle_step delays done cycles stages is l count =
      further (flat_of old) (state_of old) (state_of new) bits new.shown state seen delays done cycles stages is l count
      ∙ ap (λ q. cycle_line (done + 1) new.shown stages ++ left (flat (pipe_view q)) (state_of new) delays (done + 1) cycles) (sym pipe)

-- no cycle is left
pub left_none : (p : Pipe) (st : State) (delays : List ℕ) (done cycles : ℕ) → cycles ≤ done → left p st delays done cycles ≡ []
left_none p st delays done cycles l = let none : cycles - done ≡ 0 = omega arith in rw none refl

-- a machine with the same pipe has as many stages
pub same_stages : (new old : Running) → new.pipe ≡ old.pipe → length (flat_of new).stages ≡ length (flat_of old).stages
same_stages new old pipe = ap (λ q. length (flat (pipe_view q)).stages) pipe

-- the lines of a machine that begins are the view of its pipe
pub begun : (m : Running) (q : r_pipe.Pipe) (image : List (List ℕ)) (schedule : List ℕ)
    → m.pipe ≡ q → state_of m ≡ stated.first (flat (pipe_view q)) (arrays_of image)
    → lines_from 1 (flat_of m) (state_of m) schedule ≡ view_text (pipe_view q) image schedule
begun m q image schedule pipe state =
    ap (λ (s : State). lines_from 1 (flat_of m) s schedule) state
    ∙ ap (λ r. lines_from 1 (flat (pipe_view r)) (stated.first (flat (pipe_view q)) (arrays_of image)) schedule) pipe
