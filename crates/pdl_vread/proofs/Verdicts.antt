-- A text has one verdict: a netlist, or a rule with a line.
use Rattle.std.proofs.Common.{◌≡◌, ℕ, List, Option, Some, None, Result, Ok, Err, refl, sym, ap, ◌∙◌, subst}
use Rattle.pdl_kit.specs.declared.mem_info.MemInfo.{MemInfo}
use Rattle.pdl_kit.specs.declared.rule.Rule.{Rule}
use Rattle.pdl_kit.specs.declared.rule.Rule.TheVariants.{V1, V2, V3, V4, V5}
use Rattle.pdl_net.specs.declared.Netlist.{Netlist}
use Rattle.pdl_net.specs.Pipe.{IsPipe}
use Rattle.pdl_vread_text.specs.declared.file.File.{File}
use Rattle.pdl_vread_text.specs.declared.read.VerilogError.TheVariants.{Misplaced}
use Rattle.pdl_vread_text.specs.Text.{IsFile, IsOutOfPlace}
use Rattle.pdl_vread_text.proofs.Place.{one_file, judged_exact}
use Rattle.pdl_vread_nets.specs.declared.wiring.Wiring.{Wiring}
use Rattle.pdl_vread_nets.specs.Wired.{wiring}
use Rattle.pdl_vread_rules.specs.Widths.{width_line}
use Rattle.pdl_vread_rules.specs.Once.{once_line}
use Rattle.pdl_vread_pipe.specs.ToldParts.{with_mems}
use Rattle.pdl_vread_pipe.specs.Tests.{judged}
use Rattle.pdl_vread_pipe.proofs.Pipes.{is_pipe_of, judged_of}
use Rattle.pdl_vread.specs.declared.read.VError.{VError}
use Rattle.pdl_vread.specs.declared.read.VError.TheVariants.{Refused, NoMemory}
use Rattle.pdl_vread.specs.Built.{built}
use Rattle.pdl_vread.specs.Reads.{IsWired, IsNetlistOf, FileBreaks, Reads, Breaks, Judges, GivesNetlist, GivesRefusal}

-- a rule with a line
record Fault : Type 0 where
  rule : Rule
  line : ℕ

abbrev fault : Rule → ℕ → Fault
fault rule line = record { rule = rule; line = line }

abbrev Verdict : Type 0
Verdict = Result Netlist Fault

abbrev by_mems : File → Netlist → Option (List MemInfo) → Verdict
by_mems f n (Some ms) = Ok (with_mems n ms)
by_mems f n None = Err (fault V5 f.line)

abbrev by_once : File → Wiring → Option ℕ → Verdict
by_once f w (Some line) = Err (fault V4 line)
by_once f w None = by_mems f (built f w) (judged (built f w))

abbrev by_widths : File → Wiring → Option ℕ → Verdict
by_widths f w (Some line) = Err (fault V3 line)
by_widths f w None = by_once f w (once_line f w)

abbrev by_wiring : File → Result Wiring ℕ → Verdict
by_wiring f (Err line) = Err (fault V2 line)
by_wiring f (Ok w) = by_widths f w (width_line f w)

-- the verdict on a file
abbrev verdict : File → Verdict
verdict f = by_wiring f (wiring f)

-- the verdict on a text
data Has (bytes : List ℕ) (v : Verdict) : Type 0 where
  misplaced : (line : ℕ) → IsOutOfPlace bytes line → v ≡ Err (fault V1 line) → Has bytes v
  filed : (f : File) → IsFile bytes f → v ≡ verdict f → Has bytes v

one_verdict : (bytes : List ℕ) (u v : Verdict) → Has bytes u → Has bytes v → u ≡ v
one_verdict bytes u v (misplaced l p e) (misplaced m q g) =
    let k : l ≡ m = judged_exact bytes (Err (Misplaced l)) m p q in
    e ∙ (ap (λ x. Err (fault V1 x)) k ∙ sym g)
one_verdict bytes u v (misplaced l p e) (filed f h g) = absurd (p.no_text f h)
one_verdict bytes u v (filed f h e) (misplaced l p g) = absurd (p.no_text f h)
one_verdict bytes u v (filed f h e) (filed g k i) = e ∙ (ap verdict (one_file bytes f g h k) ∙ sym i)

wired_so : (f : File) (w : Wiring) → IsWired f w → verdict f ≡ by_mems f (built f w) (judged (built f w))
wired_so f w d = ap (by_wiring f) d.names ∙ (ap (by_widths f w) d.widths ∙ ap (by_once f w) d.once)

netlist_so : (f : File) (n : Netlist) → IsNetlistOf f n → Ok n ≡ verdict f
netlist_so f n h =
    let p : IsPipe (with_mems (built f h.wiring) n.mems) = subst IsPipe h.same h.pipe in
    ap Ok h.same ∙ sym (wired_so f h.wiring h.wired ∙ ap (by_mems f (built f h.wiring)) (judged_of (built f h.wiring) n.mems p))

no_pipe : (n : Netlist) → ((ms : List MemInfo) → IsPipe (with_mems n ms) → ⊥) → judged n ≡ None
no_pipe n h = go (judged n) refl
  where
    go : (o : Option (List MemInfo)) → judged n ≡ o → o ≡ None
    go None e = refl
    go (Some ms) e = absurd (h ms (is_pipe_of n ms e))

breaks_so : (f : File) (rule : Rule) (line : ℕ) → FileBreaks f rule line → Err (fault rule line) ≡ verdict f
breaks_so f V2 line h = sym (ap (by_wiring f) h)
breaks_so f V3 line h = sym (ap (by_wiring f) h.1 ∙ ap (by_widths f h.0) h.2)
breaks_so f V4 line h = sym (ap (by_wiring f) h.1 ∙ (ap (by_widths f h.0) h.2 ∙ ap (by_once f h.0) h.3))
breaks_so f V5 line h = ap (λ l. Err (fault V5 l)) h.2 ∙ sym (wired_so f h.0 h.1 ∙ ap (by_mems f (built f h.0)) (no_pipe (built f h.0) h.3))
breaks_so f _ line h = absurd h

reads_has : (bytes : List ℕ) (n : Netlist) → Reads bytes n → Has bytes (Ok n)
reads_has bytes n h = filed h.file h.text (netlist_so h.file n h.netlist)

breaks_has : (bytes : List ℕ) (rule : Rule) (line : ℕ) → Breaks bytes rule line → Has bytes (Err (fault rule line))
breaks_has bytes V1 line h = misplaced line h refl
breaks_has bytes rule line h = filed h.0 h.1 (breaks_so h.0 rule line h.2)

-- where a text reads as a netlist, the answer is that netlist, unless memory ran out
pub gives_netlist : (bytes : List ℕ) (r : Result Netlist VError) (n : Netlist) → Judges bytes r → Reads bytes n → GivesNetlist n r
gives_netlist bytes (Ok m) n h k =
    let e = one_verdict bytes (Ok m) (Ok n) (reads_has bytes m h) (reads_has bytes n k) in
    cc
gives_netlist bytes (Err NoMemory) n h k = tt
gives_netlist bytes (Err (Refused rule line)) n h k =
    let e = one_verdict bytes (Err (fault rule line)) (Ok n) (breaks_has bytes rule line h) (reads_has bytes n k) in
    cc

-- where a text breaks a rule at a line, the answer is that refusal, unless memory ran out
pub gives_refusal : (bytes : List ℕ) (r : Result Netlist VError) (rule : Rule) (line : ℕ) → Judges bytes r
    → Breaks bytes rule line → GivesRefusal rule line r
gives_refusal bytes (Ok m) rule line h k =
    let e = one_verdict bytes (Ok m) (Err (fault rule line)) (reads_has bytes m h) (breaks_has bytes rule line k) in
    cc
gives_refusal bytes (Err NoMemory) rule line h k = tt
gives_refusal bytes (Err (Refused r l)) rule line h k =
    let e = one_verdict bytes (Err (fault r l)) (Err (fault rule line)) (breaks_has bytes r l h) (breaks_has bytes rule line k) in
    let i : fault r l ≡ fault rule line = cc in
    (ap (λ x. x.rule) i, ap (λ x. x.line) i)

pub ruleset one_way = (gives_netlist, gives_refusal)
