-- What `build` writes for a source runs as the source does.
use Rattle.std.proofs.Common.{◌≡◌, ◌≢◌, ℕ, List, [], ◌∷◌, Option, Some, None, Result, Ok, Err, AllPairs, length, refl, sym, ap, subst, ◌∙◌, Bool}
use Rattle.std.specs.Prelude.{◌↔◌}
use Rattle.pdl_kit.specs.declared.mem_info.MemInfo.{MemInfo}
use Rattle.pdl_kit.specs.declared.rule.Rule.{Rule}
use Rattle.pdl_semantics.specs.Tree.{Pipe}
use Rattle.pdl_semantics.specs.Flat as flat_form
use Rattle.pdl_semantics.specs.Flatten.{flat}
use Rattle.pdl_semantics.specs.Lines.{run_lines}
use Rattle.pdl_syntax_grammar.proofs.Places.{one_tree}
use Rattle.pdl_net.specs.declared.Netlist.{Netlist}
use Rattle.pdl_net.specs.Run.{delayed_mems}
use Rattle.pdl_law_parts.specs.Places.{delayed_count}
use Rattle.pdl_law_sides.specs.WholeNetlist.{in_order}
use Rattle.pdl_cli_commands.specs.Memories.{replies_in, taken_in_order}
use Rattle.pdl_image.specs.Lines as image_lines
use Rattle.pdl_image.specs.Images.{IsImage, image, after_header, first_wrong}
use Rattle.pdl_image.specs.Slots.{all_slots}
use Rattle.pdl_image.specs.declared.file_error.FileError.{FileError}
use Rattle.pdl_image.specs.declared.file_error.FileError.TheVariants as file
use Rattle.pdl_image.proofs.WholeImage.{no_header, wrong_line, image_read, whole}
use Rattle.pdl_vread.specs.Reads.{Reads}
use Rattle.pdl_vread.proofs.Memories.{read_names}
use Rattle.pdl_cli_args.specs.Line.{run, sim}
use Rattle.pdl_cli_failure.specs.declared.failure.Position.{Position}
use Rattle.pdl_cli_failure.specs.declared.failure.Position.TheVariants.{Line, Insn}
use Rattle.pdl_cli.specs.Alike.{DoTheSame}
use Rattle.pdl_netrun_lines.specs.Printed.{run_text}
use Rattle.pdl_cli_commands.specs.Replies.{IsSchedule, DelaysRefused}
use Rattle.pdl_cli_commands.specs.Simulated.{IsStarted, IsSimulated, IsWrongSim}
use Rattle.pdl_cli_commands.specs.Commands.{IsLoaded, IsBuilt, IsOutput, IsWrongRun, IsWrongFor, Writes}
use Rattle.pdl_cli_commands.proofs.ToldMemories.{delayed_as_many}
use Rattle.pdl_cli_commands.proofs.AcceptedNetlists.{images}
use Rattle.pdl_cli_commands.proofs.OneNetlist.{one_netlist, read_right}
use Rattle.pdl_cli_commands.proofs.RightSources.{kept_unrefused}
use Rattle.pdl_rules.specs.Memories.{infos_of}

-- ---- images that are taken

taken_after : (mems : List MemInfo) (text : List ℕ) (ranged : Bool) (words rest : List (List ℕ)) (o : Option FileError)
    → AllPairs (λ a b. a.name ≢ b.name) mems → image mems text ≡ Ok words
    → after_header (image_lines.lines text) ≡ Some (ranged, rest) → first_wrong ranged mems [] 2 rest ≡ o → IsImage mems words
taken_after mems text ranged words rest None distinct e f g =
    let k = image_read ranged mems text rest (all_slots ranged mems rest) f g refl in
    whole ranged mems rest (all_slots ranged mems rest) words distinct g refl (cc (e, k))
taken_after mems text ranged words rest (Some refusal) distinct e f g =
    let k = wrong_line mems text ranged rest refusal f g in absurd (cc (e, k))

taken_image : (mems : List MemInfo) (text : List ℕ) (words : List (List ℕ)) (o : Option (Bool × List (List ℕ)))
    → AllPairs (λ a b. a.name ≢ b.name) mems → image mems text ≡ Ok words → after_header (image_lines.lines text) ≡ o
    → IsImage mems words
taken_image mems text words None distinct e f = let k = no_header mems text f in absurd (cc (e, k))
taken_image mems text words (Some (ranged, rest)) distinct e f =
    taken_after mems text ranged words rest (first_wrong ranged mems [] 2 rest) distinct e f refl

-- ---- images in another order of memories

-- what is taken in the pipe's order is taken in the netlist's
taken_from : (p : flat_form.Pipe) (r : Result (List (List ℕ)) FileError) (words : List (List ℕ))
    → taken_in_order p r ≡ Ok words → (start : List (List ℕ)) × (r ≡ Ok start) × (in_order p start ≡ words)
taken_from p (Ok start) words e = let k : in_order p start ≡ words = cc e in (start, refl, k)
taken_from p (Err f) words e = absurd (cc e)

refused_from : (p : flat_form.Pipe) (r : Result (List (List ℕ)) FileError) (f : FileError) → taken_in_order p r ≡ Err f → r ≡ Err f
refused_from p (Ok start) f e = absurd (cc e)
refused_from p (Err g) f e = let k : g ≡ f = cc e in ap (λ x. Err x) k

-- ---- what is built

module _ (source built : List ℕ) (b : IsBuilt source built) where
  same_images : (i : List ℕ) → image (infos_of b.pipe.mems) i ≡ taken_in_order (flat b.pipe) (image b.netlist.mems i)
  same_images i = images source b.pipe b.netlist b.accepted b.follows i

  count : length (delayed_mems b.netlist) ≡ delayed_count (flat b.pipe)
  count = delayed_as_many b.pipe b.netlist b.follows

  fits : (i : List ℕ) (words : List (List ℕ)) → image b.netlist.mems i ≡ Ok words → IsImage b.netlist.mems words
  fits i words e =
      taken_image b.netlist.mems i words (after_header (image_lines.lines i)) (read_names built (Ok b.netlist) b.read) e refl

  netlist_is : (n : Netlist) → Reads built n → n ≡ b.netlist
  netlist_is n r = one_netlist built n b.netlist r b.read

  -- the image that `sim` takes is the one that `run` takes
  loaded : (i : List ℕ) (words : List (List ℕ)) → image b.netlist.mems i ≡ Ok words → IsLoaded source i b.pipe (in_order (flat b.pipe) words)
  loaded i words taken = record { accepted = b.accepted; taken = same_images i ∙ ap (taken_in_order (flat b.pipe)) taken }

  started : (i : List ℕ) (words : List (List ℕ)) (n : Netlist) → IsStarted built i n words → image b.netlist.mems i ≡ Ok words
  started i words n s = subst (λ (x : Netlist). image x.mems i ≡ Ok words) (netlist_is n s.read) s.taken

  run_writes : (i : List ℕ) (cycles : ℕ) (ds : List (List ℕ)) (t : List ℕ) → IsSimulated built i cycles ds t → IsOutput source i cycles ds t
  run_writes i cycles ds t s =
      let n = netlist_is s.netlist s.started.read in
      let taken = started i s.words s.netlist s.started in
      let replies = subst (λ (x : Netlist). IsSchedule ds (length (delayed_mems x)) cycles s.schedule) n s.replies in
      let printed : t ≡ run_text b.netlist s.words s.schedule = subst (λ (x : Netlist). t ≡ run_text x s.words s.schedule) n s.printed in
      let fit = fits i s.words taken in
      let promised = b.runs s.words s.schedule fit in
      record {
        pipe = b.pipe;
        words = in_order (flat b.pipe) s.words;
        loaded = loaded i s.words taken;
        schedule = s.schedule;
        replies = subst (λ k. IsSchedule ds k cycles s.schedule) count replies;
        lines = printed ∙ promised.lines;
        netlist = b.netlist;
        follows = b.follows;
        writes = b.writes;
        start = s.words;
        started = record { fits = fit; ordered = refl };
        printed = printed;
        promised = promised;
      }

  sim_writes : (i : List ℕ) (cycles : ℕ) (ds : List (List ℕ)) (t : List ℕ) → IsOutput source i cycles ds t → IsSimulated built i cycles ds t
  sim_writes i cycles ds t o =
      let q : o.pipe ≡ b.pipe = one_tree source o.pipe b.pipe o.loaded.accepted.text b.accepted.text in
      let taken : image (infos_of b.pipe.mems) i ≡ Ok o.words = subst (λ (x : Pipe). image (infos_of x.mems) i ≡ Ok o.words) q o.loaded.taken in
      let k = taken_from (flat b.pipe) (image b.netlist.mems i) o.words (sym (same_images i) ∙ taken) in
      let replies = subst (λ (x : Pipe). IsSchedule ds (delayed_count (flat x)) cycles o.schedule) q o.replies in
      let lines : t ≡ run_lines b.pipe o.words (replies_in (flat b.pipe) o.schedule) =
      subst (λ (x : Pipe). t ≡ run_lines x o.words (replies_in (flat x) o.schedule)) q o.lines in
      let fit = fits i k.0 k.1 in
      record {
        netlist = b.netlist;
        words = k.0;
        started = record { read = b.read; taken = k.1 };
        schedule = o.schedule;
        replies = subst (λ c. IsSchedule ds c cycles o.schedule) (sym count) replies;
        printed = lines ∙ ap (λ ws. run_lines b.pipe ws (replies_in (flat b.pipe) o.schedule)) (sym k.2) ∙ sym (b.runs k.0 o.schedule fit).lines;
      }

  run_wrong : (others : List (List ℕ)) (rule : Rule) (line : ℕ) → IsWrongSim (built ∷ others) rule line → IsWrongRun (source ∷ others) rule line
  run_wrong [] rule line w = absurd (read_right built b.netlist rule line b.read w)
  run_wrong (i ∷ []) rule line w = record {
    pipe = b.pipe;
    accepted = b.accepted;
    refused =
        same_images i
        ∙ ap (taken_in_order (flat b.pipe))
        (subst (λ (x : Netlist). image x.mems i ≡ Err (file.Refused rule line)) (netlist_is w.netlist w.read) w.refused);
  }
  run_wrong (i ∷ d ∷ []) rule line w =
      let n = netlist_is w.netlist w.started.read in
      record {
        pipe = b.pipe;
        words = in_order (flat b.pipe) w.words;
        loaded = loaded i w.words (started i w.words w.netlist w.started);
        refused = subst (λ k. DelaysRefused k d rule line) (ap (λ (x : Netlist). length (delayed_mems x)) n ∙ count) w.refused;
      }
  run_wrong (i ∷ d ∷ e ∷ others) rule line w = w

  sim_wrong : (others : List (List ℕ)) (rule : Rule) (line : ℕ) → IsWrongRun (source ∷ others) rule line → IsWrongSim (built ∷ others) rule line
  sim_wrong [] rule line w = absurd (kept_unrefused source b.pipe rule line b.accepted w)
  sim_wrong (i ∷ []) rule line w =
      let q : w.pipe ≡ b.pipe = one_tree source w.pipe b.pipe w.accepted.text b.accepted.text in
      let refused : image (infos_of b.pipe.mems) i ≡ Err (file.Refused rule line) =
      subst (λ (p : Pipe). image (infos_of p.mems) i ≡ Err (file.Refused rule line)) q w.refused in
      record {
        netlist = b.netlist;
        read = b.read;
        refused = refused_from (flat b.pipe) (image b.netlist.mems i) (file.Refused rule line) (sym (same_images i) ∙ refused);
      }
  sim_wrong (i ∷ d ∷ []) rule line w =
      let q : w.pipe ≡ b.pipe = one_tree source w.pipe b.pipe w.loaded.accepted.text b.accepted.text in
      let taken : image (infos_of b.pipe.mems) i ≡ Ok w.words =
      subst (λ (x : Pipe). image (infos_of x.mems) i ≡ Ok w.words) q w.loaded.taken in
      let k = taken_from (flat b.pipe) (image b.netlist.mems i) w.words (sym (same_images i) ∙ taken) in
      record {
        netlist = b.netlist;
        words = k.0;
        started = record { read = b.read; taken = k.1 };
        refused = subst (λ c. DelaysRefused c d rule line) (ap (λ (p : Pipe). delayed_count (flat p)) q ∙ sym count) w.refused;
      }
  sim_wrong (i ∷ d ∷ e ∷ others) rule line w = w

  module _ (v s image' : List ℕ) (cycles : ℕ) (delays : Option (List ℕ)) where
    same_writes : (others : List (List ℕ)) (t : List ℕ)
        → Writes (sim v image' cycles delays) (built ∷ others) t ↔ Writes (run s image' cycles delays) (source ∷ others) t
    same_writes [] t = (λ w. w, λ w. w)
    same_writes (i ∷ ds) t = (run_writes i cycles ds t, sim_writes i cycles ds t)

    same_refusals : (others : List (List ℕ)) (rule : Rule) (position : Position)
        → IsWrongFor (sim v image' cycles delays) (built ∷ others) rule position ↔ IsWrongFor (run s image' cycles delays) (source ∷ others) rule position
    same_refusals others rule (Line n) = (run_wrong others rule n, sim_wrong others rule n)
    same_refusals others rule (Insn n) = (λ w. w, λ w. w)

-- `sim` of what is built does what `run` of the source does
pub same_run : (source built v s image' : List ℕ) (cycles : ℕ) (delays : Option (List ℕ)) → IsBuilt source built
    → DoTheSame (sim v image' cycles delays) (run s image' cycles delays) built source
same_run source built v s image' cycles delays b = record {
  writes = same_writes source built b v s image' cycles delays;
  refused = same_refusals source built b v s image' cycles delays;
}
