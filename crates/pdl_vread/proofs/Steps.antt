-- What the steps of the reader answer.
use Rattle.std.proofs.Common.{◌≡◌, ◌<◌, List, length, refl, sym, ap, ◌∙◌, subst}
use Rattle.pdl_kit.specs.declared.mem_info.MemInfo.{MemInfo}
use Rattle.pdl_kit.specs.declared.rule.Rule.TheVariants.{V5}
use Rattle.pdl_net.specs.declared.Netlist.{Netlist}
use Rattle.pdl_net.specs.Pipe.{IsPipe}
use Rattle.pdl_vread_text.specs.declared.file.File.{File}
use Rattle.pdl_vread_nets.specs.declared.wiring.Wiring.{Wiring}
use Rattle.pdl_vread_pipe.specs.ToldParts.{with_mems}
use Rattle.pdl_vread.specs.Built.{built}
use Rattle.pdl_vread.specs.declared.read.VError.{VError}
use Rattle.pdl_vread.specs.declared.read.VError.TheVariants.{Refused, NoMemory}
use Rattle.pdl_vread.specs.Reads.{IsWired, IsNetlistOf, FileBreaks, Refuses}
use Rattle.pdl_vread.proofs.Depths.{many_arrays}

-- ---- V5

-- a file of more than 16 arrays that breaks none of V2 to V4 breaks V5 at the line of its module
pub breaks_many : (f : File) (w : Wiring) → IsWired f w → 16 < length f.arrays → FileBreaks f V5 f.line
breaks_many f w d h = (w, d, refl, many_arrays f w h)

-- a refusal by V5 of what is built of a file that breaks none of V2 to V4 tells what the file breaks
pub refused_pipe : (f : File) (w : Wiring) (n : Netlist) (e : VError) → IsWired f w
    → n ≡ built f w
    → Refuses (λ rule line. (rule ≡ V5) × (line ≡ f.line) × ((ms : List MemInfo) → IsPipe (with_mems n ms) → ⊥)) e
    → Refuses (FileBreaks f) e
refused_pipe f w n (Refused rule line) d e h =
    let b : FileBreaks f V5 line = (w, d, h.1, λ ms p. h.2 ms (subst (λ x. IsPipe (with_mems x ms)) (sym e) p)) in
    subst (λ r. FileBreaks f r line) (sym h.0) b
refused_pipe f w n NoMemory d e h = tt

-- what is built of a wired file is its netlist, with memories by which its ports and arrays are a pipe's
pub is_netlist : (f : File) (w : Wiring) (n m : Netlist) → IsWired f w → n ≡ built f w → m ≡ with_mems n m.mems → IsPipe m → IsNetlistOf f m
is_netlist f w n m d e h p = record { wiring = w; wired = d; same = h ∙ ap (λ x. with_mems x m.mems) e; pipe = p }

pub ruleset last_rule = (refused_pipe, is_netlist)
