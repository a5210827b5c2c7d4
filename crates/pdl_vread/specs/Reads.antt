-- Which texts read as which netlists, and which rule refuses any other text.
use Rattle.std.specs.Prelude.{◌≡◌, ℕ, List, Some, None, Result, Ok, Err, MatchResult}
use Rattle.pdl_kit.specs.declared.mem_info.MemInfo.{MemInfo}
use Rattle.pdl_kit.specs.declared.rule.Rule.{Rule}
use Rattle.pdl_kit.specs.declared.rule.Rule.TheVariants.{V1, V2, V3, V4, V5}
use Rattle.pdl_net.specs.declared.Netlist.{Netlist}
use Rattle.pdl_net.specs.Pipe.{IsPipe}
use Rattle.pdl_vread_text.specs.declared.file.File.{File}
use Rattle.pdl_vread_text.specs.Text.{IsFile, IsOutOfPlace}
use Rattle.pdl_vread_nets.specs.declared.passes.PassStop.{PassStop}
use Rattle.pdl_vread_nets.specs.declared.passes.PassStop.TheVariants as stop
use Rattle.pdl_vread_nets.specs.declared.wiring.Wiring.{Wiring}
use Rattle.pdl_vread_nets.specs.Wired.{wiring}
use Rattle.pdl_vread_rules.specs.Widths.{width_line}
use Rattle.pdl_vread_rules.specs.Once.{once_line}
use Rattle.pdl_vread_pipe.specs.ToldParts.{with_mems}
use Rattle.pdl_vread.specs.declared.read.VError.{VError}
use Rattle.pdl_vread.specs.declared.read.VError.TheVariants.{Refused, NoMemory}
use Rattle.pdl_vread.specs.Built.{built}

-- ---- files

-- a file breaks none of V2 to V4, and its names are wired so
pub record IsWired (f : File) (w : Wiring) : Type 0 where
  pub names : wiring f ≡ Ok w
  pub widths : width_line f w ≡ None
  pub once : once_line f w ≡ None

-- a netlist is that of a file, which breaks none of V2 to V5: it is built of what the file declares, and it is a pipe's with its memories
pub record IsNetlistOf (f : File) (n : Netlist) : Type 0 where
  pub wiring : Wiring
  pub wired : IsWired f wiring
  pub same : n ≡ with_mems (built f wiring) n.mems
  pub pipe : IsPipe n

-- a file breaks a rule and none before it, at no line before this one
abbrev pub FileBreaks : File → Rule → ℕ → Type 0
FileBreaks f V2 line = wiring f ≡ Err line
FileBreaks f V3 line = (w : Wiring) × (wiring f ≡ Ok w) × (width_line f w ≡ Some line)
FileBreaks f V4 line =
    (w : Wiring) × (wiring f ≡ Ok w) × (width_line f w ≡ None) × (once_line f w ≡ Some line)
FileBreaks f V5 line =
    (w : Wiring) × IsWired f w × (line ≡ f.line)
    × ((ms : List MemInfo) → IsPipe (with_mems (built f w) ms) → ⊥)
FileBreaks f _ line = ⊥

-- ---- texts

-- the bytes read as the netlist: they are a text of a file, and this is its netlist
pub record Reads (bytes : List ℕ) (n : Netlist) : Type 0 where
  pub file : File
  pub text : IsFile bytes file
  pub netlist : IsNetlistOf file n

-- the bytes break a rule and none before it, at no line before this one
abbrev pub Breaks : List ℕ → Rule → ℕ → Type 0
Breaks bytes V1 line = IsOutOfPlace bytes line
Breaks bytes rule line = (f : File) × IsFile bytes f × FileBreaks f rule line

-- ---- answers

-- an error tells which rule is broken and where, unless memory ran out
abbrev pub Refuses : (Rule → ℕ → Type 0) → VError → Type 0
Refuses Broken (Refused rule line) = Broken rule line
Refuses Broken NoMemory = Unit {0}

-- a netlist is what the bytes read as, and a refusal tells what they break first
abbrev pub Judges : List ℕ → Result Netlist VError → Type 0
Judges bytes r = MatchResult r (Reads bytes) (Refuses (Breaks bytes))

-- a result is this netlist, or memory ran out
abbrev pub GivesNetlist : Netlist → Result Netlist VError → Type 0
GivesNetlist n (Ok m) = m ≡ n
GivesNetlist n (Err NoMemory) = Unit {0}
GivesNetlist n (Err (Refused rule line)) = ⊥

-- a result is this refusal, or memory ran out
abbrev pub GivesRefusal : Rule → ℕ → Result Netlist VError → Type 0
GivesRefusal rule line (Ok m) = ⊥
GivesRefusal rule line (Err NoMemory) = Unit {0}
GivesRefusal rule line (Err (Refused r l)) = (r ≡ rule) × (l ≡ line)

-- the error where memory ran out
abbrev pub no_memory : VError
no_memory = NoMemory

-- the refusal by a rule of what a pass stopped at
abbrev pub refusal : Rule → PassStop → VError
refusal rule (stop.Broken line) = Refused rule line
refusal rule stop.NoMemory = NoMemory
