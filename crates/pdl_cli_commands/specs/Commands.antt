-- What the commands do with the texts of the files that they name.
use Rattle.std.specs.Prelude.{◌≡◌, ℕ, ◌⊎◌, ◌++◌, List, [], ◌∷◌, map, Some, None, Ok, Err}
use Rattle.pdl_kit.specs.declared.rule.Rule.{Rule}
use Rattle.pdl_kit.specs.declared.rule.Rule.TheVariants.{G1}
use Rattle.pdl_kit.specs.declared.mem_info.MemInfo.{MemInfo}
use Rattle.pdl_semantics.specs.Tree.{Pipe}
use Rattle.pdl_semantics.specs.Flat.{arrays_of}
use Rattle.pdl_semantics.specs.Flatten.{flat}
use Rattle.pdl_semantics.specs.Cycle.{turns}
use Rattle.pdl_semantics.specs.Lines.{accepted_line, run_lines, seq_lines, turn_cycles, view_lines}
use Rattle.pdl_semantics.specs.Promises.{KeepsPace}
use Rattle.pdl_syntax_grammar.specs.Text.{IsText, IsOutOfPlace}
use Rattle.pdl_rules.specs.Refusal.{refusal}
use Rattle.pdl_net.specs.declared.Netlist.{Netlist}
use Rattle.pdl_net.specs.Run.{nports}
use Rattle.pdl_wave.specs.Wave.{IsWaveOf}
use Rattle.pdl_netrun_wave.specs.Dumped.{wave_ports, rows_of, run_dump}
use Rattle.pdl_law_parts.specs.Places.{delayed_count}
use Rattle.pdl_law_parts.specs.Runs.{cycle_of}
use Rattle.pdl_law_sides.specs.WholeNetlist.{in_order}
use Rattle.pdl_law_follows.specs.Memories.{replies_in}
use Rattle.pdl_law_follows.specs.Follows.{Follows}
use Rattle.pdl_law_follows.specs.Refined.{RefinesThreads}
use Rattle.pdl_law_follows.specs.Promised.{IsRunOf}
use Rattle.pdl_pipe.specs.KeptPlaces.{KeepsPlaces}
use Rattle.pdl_image.specs.Images.{IsImage, image}
use Rattle.pdl_image.specs.declared.file_error.FileError.TheVariants as file
use Rattle.pdl_vlog.specs.Layout.{verilog}
use Rattle.pdl_vread.specs.Reads.{Reads}
use Rattle.pdl_gen.specs.Generated as generated
use Rattle.pdl_cli_args.specs.Line.{Command, check, run, seq, asm, gen, build, sim, wave, view}
use Rattle.pdl_cli_failure.specs.declared.failure.Position.{Position}
use Rattle.pdl_cli_failure.specs.declared.failure.Position.TheVariants.{Line, Insn}
use Rattle.pdl_cli_failure.specs.declared.failure.Failure.{Failure}
use Rattle.pdl_cli_failure.specs.declared.failure.Failure.TheVariants as failure
use Rattle.pdl_cli_commands.specs.Assembled.{IsWrongTable, IsWrongText, IsAssembled}
use Rattle.pdl_netrun_lines.specs.Printed.{run_text, schedule as scheduled}
use Rattle.pdl_cli_commands.specs.Summaries.{image_of, end_of}
use Rattle.pdl_cli_commands.specs.Replies.{all_answered, IsSchedule, DelaysRefused}
use Rattle.pdl_cli_commands.specs.Simulated.{IsWrongSim, IsSimulated}
use Rattle.pdl_rules.specs.Memories.{infos_of}

-- ONE FILE

-- a refusal at a line
abbrev pub AtLine : (ℕ → Type 0) → Position → Type 0
AtLine refused (Line n) = refused n
AtLine refused (Insn n) = ⊥

-- a refusal at an instruction
abbrev pub AtInsn : (ℕ → Type 0) → Position → Type 0
AtInsn refused (Line n) = ⊥
AtInsn refused (Insn n) = refused n

-- the source is refused by the rule at the line: it is no text of the grammar, or one that breaks the rule
abbrev pub SourceRefused : List ℕ → Rule → ℕ → Type 0
SourceRefused source rule line =
    ((rule ≡ G1) × IsOutOfPlace source line)
    ⊎ ((p : Pipe) × IsText source p
    × (refusal source p ≡ Some (record { rule = rule; line = line })))

-- the source is the text of the pipe, which breaks no rule
pub record IsAccepted (source : List ℕ) (p : Pipe) : Type 0 where
  pub text : IsText source p
  pub kept : refusal source p ≡ None

-- the image text gives these words for the pipe's memories
abbrev pub IsTaken : Pipe → List ℕ → List (List ℕ) → Type 0
IsTaken p text words = image (infos_of p.mems) text ≡ Ok words

-- why a text is no accepted source
abbrev pub TextFails : List ℕ → Failure → Type 0
TextFails source failure.Usage = ⊥
TextFails source (failure.Refused rule position) = AtLine (SourceRefused source rule) position
TextFails source failure.ReadFault = ⊥
TextFails source failure.WriteFault = ⊥
TextFails source failure.NoMemory = Unit {0}

-- THE FILES OF A COMMAND

-- the texts of the source and the image of a run, both taken
pub record IsLoaded (source image' : List ℕ) (p : Pipe) (words : List (List ℕ)) : Type 0 where
  pub accepted : IsAccepted source p
  pub taken : IsTaken p image' words

-- the source is accepted, and the image is wrong
pub record IsWrongImage (source image' : List ℕ) (rule : Rule) (line : ℕ) : Type 0 where
  pub pipe : Pipe
  pub accepted : IsAccepted source pipe
  pub refused : image (infos_of pipe.mems) image' ≡ Err (file.Refused rule line)

-- source and image are taken, and the delay file for the delayed memories of the source is wrong
pub record IsWrongDelays (source image' delays : List ℕ) (rule : Rule) (line : ℕ) : Type 0 where
  pub pipe : Pipe
  pub words : List (List ℕ)
  pub loaded : IsLoaded source image' pipe words
  pub refused : DelaysRefused (delayed_count (flat pipe)) delays rule line

-- of the texts of source, image and delay file, as far as they were read, the last one is refused by the rule at the line
abbrev pub IsWrongRun : List (List ℕ) → Rule → ℕ → Type 0
IsWrongRun (source ∷ []) rule line = SourceRefused source rule line
IsWrongRun (source ∷ image' ∷ []) rule line = IsWrongImage source image' rule line
IsWrongRun (source ∷ image' ∷ delays ∷ []) rule line = IsWrongDelays source image' delays rule line
IsWrongRun _ rule line = ⊥

-- of the texts of table and program, as far as they were read, the last one is refused by the rule at the position
abbrev pub IsWrongAsm : List (List ℕ) → Rule → Position → Type 0
IsWrongAsm (table ∷ []) rule position = AtInsn (IsWrongTable table rule) position
IsWrongAsm (table ∷ program ∷ []) rule position = AtLine (IsWrongText table program rule) position
IsWrongAsm _ rule position = ⊥

-- WHAT A COMMAND DOES

-- these words of each memory of a netlist are those of the pipe's memories, which the pipe declares in another order
pub record AreWordsOf (p : Pipe) (n : Netlist) (words : List (List ℕ)) (start : List (List ℕ)) : Type 0 where
  pub fits : IsImage n.mems start
  pub ordered : words ≡ in_order (flat p) start

-- the text that `check` writes where all is well: how many stages the pipe of the source has, and the greatest number of them on a path
pub record IsVerdict (source : List ℕ) (text : List ℕ) : Type 0 where
  pub pipe : Pipe
  pub accepted : IsAccepted source pipe
  pub line : text ≡ accepted_line pipe

-- the text that `run` writes where all is well: the lines of the machine of the pipe, which a netlist shows
pub record IsOutput (source image' : List ℕ) (cycles : ℕ) (delays : List (List ℕ)) (text : List ℕ)
    : Type 0 where
  pub pipe : Pipe
  pub words : List (List ℕ)
  pub loaded : IsLoaded source image' pipe words
  pub schedule : List ℕ
  pub replies : IsSchedule delays (delayed_count (flat pipe)) cycles schedule
  -- the text has the lines of the machine's ports
  pub lines : text ≡ run_lines pipe words (replies_in (flat pipe) schedule)
  -- and is what a netlist commits that follows the pipe: its ports by name, its memories and arrays, and each port in each cycle the machine's, for each image and schedule
  pub netlist : Netlist
  pub follows : Follows pipe netlist
  -- what the netlist writes to each memory are the writes of the threads run one after another, for each image and schedule
  pub writes : RefinesThreads pipe netlist
  pub start : List (List ℕ)
  pub started : AreWordsOf pipe netlist words start
  pub printed : text ≡ run_text netlist start schedule
  -- each memory's commits have the sequential writes of the threads that ended, and are a prefix of the sequential writes; in each cycle that is no wait the oldest thread moves; and so enough threads end; and the source without its updates commits the same, sooner or later, as does the source from an image that differs in advisory memories alone
  pub promised : IsRunOf pipe netlist start schedule

-- the text that `build` writes where all is well: a netlist that follows the pipe, as text that reads as it
pub record IsBuilt (source : List ℕ) (text : List ℕ) : Type 0 where
  pub pipe : Pipe
  pub accepted : IsAccepted source pipe
  -- the netlist has the ports, memories and arrays of the pipe, and shows its machine from each image with each schedule
  pub netlist : Netlist
  pub follows : Follows pipe netlist
  -- it writes what the threads write that run one after another, from each image with each schedule
  pub writes : RefinesThreads pipe netlist
  -- the array of each renaming lock holds the words and the pending writes at different places, in each cycle of each run
  pub places : KeepsPlaces pipe netlist
  -- the text is that of the netlist, byte for byte, and reads as it
  pub written : text ≡ verilog netlist
  pub read : Reads text netlist
  -- from each image with each schedule what is printed of the netlist are the lines of the machine, and all holds that is promised of `run`
  pub runs : (start : List (List ℕ)) (schedule : List ℕ) → IsImage netlist.mems start → IsRunOf pipe netlist start schedule

-- the text that `seq` writes where all is well: the writes of the threads, run one after another from the image, and how many they are
pub record IsSequential (source image' : List ℕ) (threads : ℕ) (text : List ℕ)
    : Type 0 where
  pub pipe : Pipe
  pub words : List (List ℕ)
  pub loaded : IsLoaded source image' pipe words
  pub lines : text ≡ seq_lines pipe words threads

-- the text that `wave` writes where all is well: the dump of the output ports of a netlist of the pipe, and what it says
pub record IsDumped (source image' : List ℕ) (cycles : ℕ) (delays : List (List ℕ)) (text : List ℕ)
    : Type 0 where
  pub pipe : Pipe
  pub words : List (List ℕ)
  pub loaded : IsLoaded source image' pipe words
  pub schedule : List ℕ
  pub replies : IsSchedule delays (delayed_count (flat pipe)) cycles schedule
  -- the netlist has the ports, memories and arrays of the pipe, and each port in each cycle the machine's value, for each image and schedule
  pub netlist : Netlist
  pub follows : Follows pipe netlist
  -- it writes what the threads write that run one after another, and the arrays of its renaming locks hold words and pending writes at different places
  pub writes : RefinesThreads pipe netlist
  pub places : KeepsPlaces pipe netlist
  pub start : List (List ℕ)
  pub started : AreWordsOf pipe netlist words start
  -- the text is the dump of the netlist's run, byte for byte
  pub dumped : text ≡ run_dump netlist start schedule
  -- and says the netlist's name, its output ports with their widths, the number of cycles, and in each of them the value that each port shows
  pub says : IsWaveOf text netlist.name (wave_ports netlist) (rows_of (nports netlist start schedule))

-- the text that `view` writes where all is well: of each cycle of the pipe's machine the stages that hold a thread, and of these the ones whose thread moves
pub record IsViewed (source image' : List ℕ) (cycles : ℕ) (delays : List (List ℕ)) (text : List ℕ)
    : Type 0 where
  pub pipe : Pipe
  pub words : List (List ℕ)
  pub loaded : IsLoaded source image' pipe words
  pub schedule : List ℕ
  pub replies : IsSchedule delays (delayed_count (flat pipe)) cycles schedule
  pub lines : text ≡ view_lines pipe words (replies_in (flat pipe) schedule)

-- the end line of a run of a source's pipe, of so many cycles from these words in each memory, with all requests answered
pub record IsSummary (source words : List ℕ) (cycles : ℕ) (line : List ℕ) : Type 0 where
  pub pipe : Pipe
  pub accepted : IsAccepted source pipe
  pub filled : List (List ℕ)
  pub same : filled ≡ image_of words (infos_of pipe.mems)
  pub counted : line ≡ end_of (turn_cycles (turns (flat pipe) (arrays_of filled) (replies_in (flat pipe) (all_answered cycles))))
  -- the counts are those of a netlist that follows the pipe
  pub netlist : Netlist
  pub follows : Follows pipe netlist
  pub start : List (List ℕ)
  pub started : AreWordsOf pipe netlist filled start
  pub shown : line ≡ end_of (map (cycle_of netlist) (nports netlist start (all_answered cycles)))
  -- and enough threads end
  pub pace : KeepsPace (flat pipe) (arrays_of filled) (replies_in (flat pipe) (all_answered cycles))

-- the text that `gen` writes where all is well: the first line of the generated run, and its end line
pub record IsGenerated (number : ℕ) (text : List ℕ) : Type 0 where
  pub last : List ℕ
  pub summary : IsSummary (generated.source number) (generated.words number) generated.cycles last
  pub lines : text ≡ generated.first_line number ++ last

-- the text that a command writes where all is well, of which the files have these texts
abbrev pub Writes : Command → List (List ℕ) → List ℕ → Type 0
Writes (check _) (source ∷ []) text = IsVerdict source text
Writes (run _ _ cycles _) (source ∷ image' ∷ delays) text = IsOutput source image' cycles delays text
Writes (seq _ _ threads) (source ∷ image' ∷ []) text = IsSequential source image' threads text
Writes (asm _ _) (table ∷ program ∷ []) text = IsAssembled table program text
Writes (gen number) [] text = IsGenerated number text
Writes (build _) (source ∷ []) text = IsBuilt source text
Writes (sim _ _ cycles _) (v ∷ image' ∷ delays) text = IsSimulated v image' cycles delays text
Writes (wave _ _ cycles _) (source ∷ image' ∷ delays) text = IsDumped source image' cycles delays text
Writes (view _ _ cycles _) (source ∷ image' ∷ delays) text = IsViewed source image' cycles delays text
Writes _ _ text = ⊥

-- of the texts of a command's files, as far as they were read in order, the last one is refused by the rule at the position; `gen` names none, and its source is asked
abbrev pub IsWrongFor : Command → List (List ℕ) → Rule → Position → Type 0
IsWrongFor (check _) texts rule position = AtLine (IsWrongRun texts rule) position
IsWrongFor (run _ _ _ _) texts rule position = AtLine (IsWrongRun texts rule) position
IsWrongFor (seq _ _ _) texts rule position = AtLine (IsWrongRun texts rule) position
IsWrongFor (asm _ _) texts rule position = IsWrongAsm texts rule position
IsWrongFor (gen number) texts rule position = AtLine (SourceRefused (generated.source number) rule) position
IsWrongFor (build _) texts rule position = AtLine (IsWrongRun texts rule) position
IsWrongFor (sim _ _ _ _) texts rule position = AtLine (IsWrongSim texts rule) position
IsWrongFor (wave _ _ _ _) texts rule position = AtLine (IsWrongRun texts rule) position
IsWrongFor (view _ _ _ _) texts rule position = AtLine (IsWrongRun texts rule) position
