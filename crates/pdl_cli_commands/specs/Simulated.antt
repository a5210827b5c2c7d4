-- What `sim` does with the texts of the files that it names.
use Rattle.std.specs.Prelude.{◌≡◌, ℕ, List, [], ◌∷◌, length, Ok, Err}
use Rattle.pdl_kit.specs.declared.rule.Rule.{Rule}
use Rattle.pdl_net.specs.declared.Netlist.{Netlist}
use Rattle.pdl_net.specs.Run.{delayed_mems}
use Rattle.pdl_image.specs.Images.{image}
use Rattle.pdl_image.specs.declared.file_error.FileError.TheVariants as file
use Rattle.pdl_vread.specs.Reads.{Reads, Breaks}
use Rattle.pdl_netrun_lines.specs.Printed.{run_text}
use Rattle.pdl_cli_commands.specs.Replies.{IsSchedule, DelaysRefused}

-- a text is that of a netlist, and another one has these words for its memories
pub record IsStarted (v image' : List ℕ) (n : Netlist) (words : List (List ℕ)) : Type 0 where
  pub read : Reads v n
  pub taken : image n.mems image' ≡ Ok words

-- the netlist is read, and the image for its memories is wrong
pub record IsWrongStart (v image' : List ℕ) (rule : Rule) (line : ℕ) : Type 0 where
  pub netlist : Netlist
  pub read : Reads v netlist
  pub refused : image netlist.mems image' ≡ Err (file.Refused rule line)

-- netlist and image are taken, and the delay file for its delayed memories is wrong
pub record IsWrongReplies (v image' delays : List ℕ) (rule : Rule) (line : ℕ) : Type 0 where
  pub netlist : Netlist
  pub words : List (List ℕ)
  pub started : IsStarted v image' netlist words
  pub refused : DelaysRefused (length (delayed_mems netlist)) delays rule line

-- of the texts of netlist, image and delay file, as far as they were read, the last one is refused by the rule at the line: that of a netlist breaks the rule and none before it
abbrev pub IsWrongSim : List (List ℕ) → Rule → ℕ → Type 0
IsWrongSim (v ∷ []) rule line = Breaks v rule line
IsWrongSim (v ∷ image' ∷ []) rule line = IsWrongStart v image' rule line
IsWrongSim (v ∷ image' ∷ delays ∷ []) rule line = IsWrongReplies v image' delays rule line
IsWrongSim _ rule line = ⊥

-- the text that `sim` writes where all is well: what the netlist that is read commits from the image with the replies, and the end line
pub record IsSimulated (v image' : List ℕ) (cycles : ℕ) (delays : List (List ℕ)) (text : List ℕ) : Type 0 where
  pub netlist : Netlist
  pub words : List (List ℕ)
  pub started : IsStarted v image' netlist words
  pub schedule : List ℕ
  pub replies : IsSchedule delays (length (delayed_mems netlist)) cycles schedule
  pub printed : text ≡ run_text netlist words schedule
