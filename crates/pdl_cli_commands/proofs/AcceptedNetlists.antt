-- What is known of the netlist of an accepted pipe, and so of its runs, its text and its dumps.
use Rattle.std.proofs.Common.{◌≡◌, ℕ, zero, suc, ◌+◌, ◌≤◌, [], ◌∷◌, ◌++◌, List, length, map, arith, refl, sym, ap, ◌∙◌, subst}
use Rattle.std.specs.Prelude.{Option, Some, None, Result, Ok, Err, IfOk, Bool, true, false, if◌then◌else◌, replicate}
use Rattle.pdl_kit.specs.declared.rule.Rule.TheVariants.{Z1}
use Rattle.pdl_system.specs.Answers.{Answer}
use Rattle.pdl_semantics.specs.Tree.{Mem, Pipe}
use Rattle.pdl_semantics.specs.Flatten.{flat}
use Rattle.pdl_semantics.specs.Lines.{columns}
use Rattle.pdl_rules.specs.Memories.{infos_of}
use Rattle.pdl_rules.specs.Limits.{is_too_long}
use Rattle.pdl_rules.specs.Refusal.{KeepsRules, limits, after_limits, first_broken}
use Rattle.pdl_rules.proofs.Unbroken.{keeps_unbroken}
use Rattle.pdl_source.proofs.Texts.{source_of, named_of}
use Rattle.pdl_image.specs.Images.{IsImage, image}
use Rattle.pdl_net.specs.declared.Netlist.{Netlist}
use Rattle.pdl_net.specs.Run.{delayed_mems}
use Rattle.pdl_law_parts.specs.Places.{delayed_count}
use Rattle.pdl_law_parts.specs.Runs.{column_of}
use Rattle.pdl_law_sides.specs.WholeNetlist.{in_order}
use Rattle.pdl_law_follows.specs.Memories.{taken_in_order}
use Rattle.pdl_law_follows.specs.Follows.{Follows}
use Rattle.pdl_law_follows.specs.Refined.{RefinesThreads}
use Rattle.pdl_law_follows.specs.Promised.{IsRunOf}
use Rattle.pdl_law_follows.proofs.FollowsMade.{declared}
use Rattle.pdl_law_follows.proofs.Images.{same_image}
use Rattle.pdl_law_follows.proofs.Sequential.{refines, runs}
use Rattle.pdl_pipe.specs.KeptPlaces.{KeepsPlaces}
use Rattle.pdl_vlog.specs.Layout.{verilog}
use Rattle.pdl_vread.specs.Reads.{Reads}
use Rattle.pdl_netrun_wave.specs.Dumped.{run_dump}
use Rattle.pdl_source_written.proofs.SourceDumps.{says}
use Rattle.pdl_netrun_lines.specs.Printed.{run_text, schedule, replies_from}
use Rattle.pdl_netrun_lines.proofs.RunSteps.{schedule_length}
use Rattle.pdl_cli_commands.specs.Replies.{all_answered, IsSchedule}
use Rattle.pdl_cli_commands.specs.Begun.{IsBegun}
use Rattle.pdl_cli_commands.specs.Commands.{IsAccepted, IsLoaded, IsOutput, IsBuilt, IsDumped}
use Rattle.pdl_cli_commands.proofs.ToldMemories.{delayed_as_many}

-- ---- lines

-- the memories of a pipe as they are told are, as lines show them, those of the pipe
pub told_columns : (ms : List Mem) → map column_of (infos_of ms) ≡ columns ms
told_columns [] = refl
told_columns (m ∷ ms) = ap (λ cs. record { name = m.name.name; width = m.width.value } ∷ cs) (told_columns ms)

-- ---- replies

none_from : (first cycles : ℕ) → replies_from [] first cycles ≡ replicate cycles 65535
none_from first zero = refl
none_from first (suc k) = ap (λ l. 65535 ∷ l) (none_from (first + 1) k)

-- without rows all requests are answered
pub none_given : (cycles : ℕ) → schedule [] cycles ≡ all_answered cycles
none_given cycles = none_from 1 cycles

-- ---- the netlist of a source

-- two facts of what a call gives, together
pub both_ok : {X Y : Type 0} (r : Result X Y) (P Q R : X → Type 0) → ((x : X) → P x → Q x → R x) → IfOk r P → IfOk r Q → IfOk r R
both_ok (Ok x) P Q R f p q = f x p q
both_ok (Err e) P Q R f p q = tt

unrefused : (t : Bool) (p : Pipe)
    → (if t then Some (record { rule = Z1; line = 1 }) else first_broken (limits ++ after_limits) p) ≡ None
    → first_broken (limits ++ after_limits) p ≡ None
unrefused true p e = absurd (cc e)
unrefused false p e = e

-- an accepted source keeps the rules
pub keeps_rules : (b : List ℕ) (p : Pipe) → IsAccepted b p → KeepsRules p
keeps_rules b p accepted = keeps_unbroken p (unrefused (is_too_long b) p accepted.kept)

module _ (b : List ℕ) (p : Pipe) (n : Netlist) (accepted : IsAccepted b p) (follows : Follows p n) where
  -- from each image, with each schedule of replies, the netlist writes what the threads write one after another
  pub writes : RefinesThreads p n
  writes = refines p (keeps_rules b p accepted) (source_of b p accepted.text) (named_of b p accepted.text) n follows

  -- each run of the netlist from an image prints the machine's lines and keeps the promises of refinement and of progress
  pub promised : (start : List (List ℕ)) (schedule : List ℕ) → IsImage n.mems start → IsRunOf p n start schedule
  promised start schedule is_image =
      runs p (keeps_rules b p accepted) (source_of b p accepted.text) (named_of b p accepted.text) n follows start schedule is_image

  -- an image file gives the pipe's memories what it gives the netlist's
  pub images : (file : List ℕ) → image (infos_of p.mems) file ≡ taken_in_order (flat p) (image n.mems file)
  images file = same_image p (declared p (keeps_rules b p accepted)).distinct file ∙ ap (λ ms. taken_in_order (flat p) (image ms file)) (sym follows.mems)

-- ---- what a command writes of a source

module _ (b : List ℕ) (p : Pipe) (n : Netlist) (accepted : IsAccepted b p) (follows : Follows p n) where
  -- the netlist's words of an image, in the order of the pipe's memories, are loaded for the source
  pub loaded : (i : List ℕ) (words : List (List ℕ)) → image n.mems i ≡ Ok words → IsLoaded b i p (in_order (flat p) words)
  loaded i words taken = record {
    accepted = accepted;
    taken = images b p n accepted follows i ∙ ap (taken_in_order (flat p)) taken;
  }

  module _ (old new : List Answer) (image' : List ℕ) (delays : Option (List ℕ)) (words : List (List ℕ)) (rows : List ℕ)
      (begun : IsBegun old new image' delays n.mems (length (delayed_mems n)) words rows) (cycles : ℕ) where
    replies : IsSchedule begun.replies.texts (delayed_count (flat p)) cycles (schedule rows cycles)
    replies =
        subst (λ k. IsSchedule begun.replies.texts k cycles (schedule rows cycles)) (delayed_as_many p n follows) (begun.replies.replies cycles)

    -- what the netlist prints is the output of the source
    pub is_output : IsOutput b begun.image_text cycles begun.replies.texts (run_text n words (schedule rows cycles))
    is_output =
        let promise = promised b p n accepted follows words (schedule rows cycles) begun.fits in
        record {
          pipe = p;
          words = in_order (flat p) words;
          loaded = loaded begun.image_text words begun.taken;
          schedule = schedule rows cycles;
          replies = replies;
          lines = promise.lines;
          netlist = n;
          follows = follows;
          writes = writes b p n accepted follows;
          start = words;
          started = record { fits = begun.fits; ordered = refl };
          printed = refl;
          promised = promise;
        }

    -- the dump of the netlist is the source's
    pub is_dumped : KeepsPlaces p n → cycles ≤ 1000000
        → IsDumped b begun.image_text cycles begun.replies.texts (run_dump n words (schedule rows cycles))
    is_dumped places few = record {
      pipe = p;
      words = in_order (flat p) words;
      loaded = loaded begun.image_text words begun.taken;
      schedule = schedule rows cycles;
      replies = replies;
      netlist = n;
      follows = follows;
      writes = writes b p n accepted follows;
      places = places;
      start = words;
      started = record { fits = begun.fits; ordered = refl };
      dumped = refl;
      says =
          says b p n accepted.text (keeps_rules b p accepted) follows words (schedule rows cycles) begun.fits
          (let k = schedule_length rows 1 cycles in omega (arith, k, few));
    }

  -- the netlist's text is what is built of the source
  pub is_built : (text : List ℕ) → KeepsPlaces p n → text ≡ verilog n → Reads text n → IsBuilt b text
  is_built text places written read = record {
    pipe = p;
    accepted = accepted;
    netlist = n;
    follows = follows;
    writes = writes b p n accepted follows;
    places = places;
    written = written;
    read = read;
    runs = promised b p n accepted follows;
  }
