-- Files that are right: a text that is taken is no wrong one.
use Rattle.std.proofs.Common.{◌≡◌, ℕ, List, [], ◌∷◌, Option, length, refl, sym, ap, ◌∙◌, subst, inl, inr}
use Rattle.std.specs.Prelude.{Some, None, Ok, Err}
use Rattle.pdl_kit.specs.declared.rule.Rule.{Rule}
use Rattle.pdl_semantics.specs.Tree.{Pipe}
use Rattle.pdl_semantics.specs.Flatten.{flat}
use Rattle.pdl_syntax_grammar.proofs.Places.{one_tree}
use Rattle.pdl_rules.specs.Memories.{infos_of}
use Rattle.pdl_rules.specs.Refusal.{refusal}
use Rattle.pdl_net.specs.declared.Netlist.{Netlist}
use Rattle.pdl_net.specs.Run.{delayed_mems}
use Rattle.pdl_law_parts.specs.Places.{delayed_count}
use Rattle.pdl_law_sides.specs.WholeNetlist.{in_order}
use Rattle.pdl_law_follows.specs.Memories.{taken_in_order}
use Rattle.pdl_law_follows.specs.Follows.{Follows}
use Rattle.pdl_image.specs.Images.{image}
use Rattle.pdl_image.specs.declared.file_error.FileError.TheVariants as file
use Rattle.pdl_vread.specs.Reads.{Reads}
use Rattle.pdl_cli_args.specs.Line.{Command, sim}
use Rattle.pdl_cli_failure.specs.declared.failure.Position.{Position}
use Rattle.pdl_cli_failure.specs.declared.failure.Position.TheVariants.{Line, Insn}
use Rattle.pdl_cli_commands.specs.Replies.{DelaysRefused}
use Rattle.pdl_cli_commands.specs.Simulated.{IsStarted, IsWrongStart}
use Rattle.pdl_cli_commands.specs.Commands.{AtLine, SourceRefused, IsAccepted, IsLoaded, IsWrongImage, IsWrongRun, IsWrongFor}
use Rattle.pdl_cli_commands.specs.Reading.{listed, files}
use Rattle.pdl_cli_commands.specs.Begun.{IsRefusedImage, AreRefusedDelays}
use Rattle.pdl_cli_commands.proofs.Readings.{ReadsImage}
use Rattle.pdl_cli_commands.proofs.OneNetlist.{one_netlist, read_right}
use Rattle.pdl_cli_commands.proofs.ToldMemories.{delayed_as_many}
use Rattle.pdl_cli_commands.proofs.AcceptedNetlists.{images, loaded}

-- ---- a source and its image

-- a source that is accepted isn't refused
pub kept_unrefused : (b : List ℕ) (p : Pipe) (rule : Rule) (line : ℕ) → IsAccepted b p → SourceRefused b rule line → ⊥
kept_unrefused b p rule line a (inl w) = w.1.no_text p a.text
kept_unrefused b p rule line a (inr w) =
    let k : refusal b p ≡ Some (record { rule = rule; line = line }) =
    subst (λ (q : Pipe). refusal b q ≡ Some (record { rule = rule; line = line })) (one_tree b w.0 p w.1 a.text) w.2 in
    let n : refusal b p ≡ None = a.kept in absurd cc

-- an image that is taken isn't refused
pub image_unrefused : (b i : List ℕ) (rule : Rule) (line : ℕ) (p : Pipe) (words : List (List ℕ)) → IsLoaded b i p words → IsWrongImage b i rule line → ⊥
image_unrefused b i rule line p words l w =
    let q : w.pipe ≡ p = one_tree b w.pipe p w.accepted.text l.accepted.text in
    let r : image (infos_of p.mems) i ≡ Err (file.Refused rule line) =
    subst (λ (o : Pipe). image (infos_of o.mems) i ≡ Err (file.Refused rule line)) q w.refused in
    let k : image (infos_of p.mems) i ≡ Ok words = l.taken in absurd cc

module _ (command : Command) (source b image' : List ℕ) (delays : Option (List ℕ)) (p : Pipe) (accepted : IsAccepted b p)
    (named : files command ≡ source ∷ image' ∷ listed delays)
    (to : (ts : List (List ℕ)) (rule : Rule) (position : Position) → IsWrongFor command ts rule position → AtLine (IsWrongRun ts rule) position)
    (from : (ts : List (List ℕ)) (rule : Rule) (position : Position) → AtLine (IsWrongRun ts rule) position → IsWrongFor command ts rule position) where
  source_right : (rule : Rule) (position : Position) → IsWrongFor command (b ∷ []) rule position → ⊥
  source_right rule position w = at_position position (to (b ∷ []) rule position w)
    where
      at_position : (q : Position) → AtLine (IsWrongRun (b ∷ []) rule) q → ⊥
      at_position (Line k) v = kept_unrefused b p rule k accepted v
      at_position (Insn k) v = v

  image_right : (i : List ℕ) (words : List (List ℕ)) → IsLoaded b i p words → (rule : Rule) (position : Position)
      → IsWrongFor command (b ∷ i ∷ []) rule position → ⊥
  image_right i words l rule position w = at_position position (to (b ∷ i ∷ []) rule position w)
    where
      at_position : (q : Position) → AtLine (IsWrongRun (b ∷ i ∷ []) rule) q → ⊥
      at_position (Line k) v = image_unrefused b i rule k p words l v
      at_position (Insn k) v = v

  -- a command on a source judges the image and the delay file by the memories of its pipe
  pub by_pipe : ReadsImage command source b image' delays (infos_of p.mems) (delayed_count (flat p))
  by_pipe = record {
    named = named;
    right = source_right;
    image_wrong = image_wrong;
    image_right = λ i words taken. image_right i words (record { accepted = accepted; taken = taken });
    delays_wrong = delays_wrong;
  }
    where
      image_wrong : (i : List ℕ) (rule : Rule) (position : Position) → IsRefusedImage (infos_of p.mems) i rule position
          → IsWrongFor command (b ∷ i ∷ []) rule position
      image_wrong i rule (Line k) r = from (b ∷ i ∷ []) rule (Line k) (record { pipe = p; accepted = accepted; refused = r })
      image_wrong i rule (Insn k) r = absurd r

      delays_wrong : (i d : List ℕ) (words : List (List ℕ)) → image (infos_of p.mems) i ≡ Ok words → (rule : Rule) (position : Position)
          → AreRefusedDelays (delayed_count (flat p)) d rule position → IsWrongFor command (b ∷ i ∷ d ∷ []) rule position
      delays_wrong i d words taken rule (Line k) r =
          from (b ∷ i ∷ d ∷ []) rule (Line k)
          (record { pipe = p; words = words; loaded = record { accepted = accepted; taken = taken }; refused = r })
      delays_wrong i d words taken rule (Insn k) r = absurd r

  module _ (n : Netlist) (follows : Follows p n) where
    -- and by those of a netlist that follows its pipe
    pub by_netlist : ReadsImage command source b image' delays n.mems (length (delayed_mems n))
    by_netlist = record {
      named = named;
      right = source_right;
      image_wrong = image_wrong;
      image_right = λ i words taken. image_right i (in_order (flat p) words) (loaded b p n accepted follows i words taken);
      delays_wrong = delays_wrong;
    }
      where
        image_wrong : (i : List ℕ) (rule : Rule) (position : Position) → IsRefusedImage n.mems i rule position
            → IsWrongFor command (b ∷ i ∷ []) rule position
        image_wrong i rule (Line k) r =
            from (b ∷ i ∷ []) rule (Line k)
            (record { pipe = p; accepted = accepted; refused = images b p n accepted follows i ∙ ap (taken_in_order (flat p)) r })
        image_wrong i rule (Insn k) r = absurd r

        delays_wrong : (i d : List ℕ) (words : List (List ℕ)) → image n.mems i ≡ Ok words → (rule : Rule) (position : Position)
            → AreRefusedDelays (length (delayed_mems n)) d rule position → IsWrongFor command (b ∷ i ∷ d ∷ []) rule position
        delays_wrong i d words taken rule (Line k) r =
            from (b ∷ i ∷ d ∷ []) rule (Line k)
            (record {
              pipe = p;
              words = in_order (flat p) words;
              loaded = loaded b p n accepted follows i words taken;
              refused = subst (λ c. DelaysRefused c d rule k) (delayed_as_many p n follows) r;
            })
        delays_wrong i d words taken rule (Insn k) r = absurd r

-- ---- a netlist and its image

-- an image that is taken for a netlist isn't refused
pub start_unrefused : (b i : List ℕ) (n : Netlist) (words : List (List ℕ)) (rule : Rule) (line : ℕ)
    → IsStarted b i n words → IsWrongStart b i rule line → ⊥
start_unrefused b i n words rule line s w =
    let q : w.netlist ≡ n = one_netlist b w.netlist n w.read s.read in
    let r : image n.mems i ≡ Err (file.Refused rule line) =
    subst (λ (m : Netlist). image m.mems i ≡ Err (file.Refused rule line)) q w.refused in
    let k : image n.mems i ≡ Ok words = s.taken in absurd cc

module _ (v b image' : List ℕ) (cycles : ℕ) (delays : Option (List ℕ)) (n : Netlist) (read : Reads b n) where
  -- a simulation judges the image and the delay file by the memories of the netlist that it reads
  pub by_read : ReadsImage (sim v image' cycles delays) v b image' delays n.mems (length (delayed_mems n))
  by_read = record { named = refl; right = right; image_wrong = image_wrong; image_right = image_right; delays_wrong = delays_wrong }
    where
      right : (rule : Rule) (position : Position) → IsWrongFor (sim v image' cycles delays) (b ∷ []) rule position → ⊥
      right rule (Line k) w = read_right b n rule k read w
      right rule (Insn k) w = w

      image_wrong : (i : List ℕ) (rule : Rule) (position : Position) → IsRefusedImage n.mems i rule position
          → IsWrongFor (sim v image' cycles delays) (b ∷ i ∷ []) rule position
      image_wrong i rule (Line k) r = record { netlist = n; read = read; refused = r }
      image_wrong i rule (Insn k) r = r

      image_right : (i : List ℕ) (words : List (List ℕ)) → image n.mems i ≡ Ok words → (rule : Rule) (position : Position)
          → IsWrongFor (sim v image' cycles delays) (b ∷ i ∷ []) rule position → ⊥
      image_right i words taken rule (Line k) w = start_unrefused b i n words rule k (record { read = read; taken = taken }) w
      image_right i words taken rule (Insn k) w = w

      delays_wrong : (i d : List ℕ) (words : List (List ℕ)) → image n.mems i ≡ Ok words → (rule : Rule) (position : Position)
          → AreRefusedDelays (length (delayed_mems n)) d rule position → IsWrongFor (sim v image' cycles delays) (b ∷ i ∷ d ∷ []) rule position
      delays_wrong i d words taken rule (Line k) r =
          record { netlist = n; words = words; started = record { read = read; taken = taken }; refused = r }
      delays_wrong i d words taken rule (Insn k) r = r
