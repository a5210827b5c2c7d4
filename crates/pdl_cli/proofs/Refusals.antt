-- A command has one refusal: of the first wrong file, by one rule, at one position.
use Rattle.std.proofs.Common.{◌≡◌, ℕ, zero, suc, List, [], ◌∷◌, ◌++◌, ◌⊎◌, take, length, inl, inr, refl, sym, ap, subst, ◌∙◌}
use Rattle.std.specs.Prelude.{Option, Some, Ok, Err}
use Rattle.pdl_kit.specs.declared.rule.Rule.{Rule}
use Rattle.pdl_semantics.specs.Tree.{Pipe}
use Rattle.pdl_semantics.specs.Flatten.{flat}
use Rattle.pdl_syntax_grammar.proofs.Places.{one_tree, one_place}
use Rattle.pdl_rules.specs.Memories.{infos_of}
use Rattle.pdl_rules.specs.Refusal.{Refused, refusal}
use Rattle.pdl_net.specs.declared.Netlist.{Netlist}
use Rattle.pdl_net.specs.Run.{delayed_mems}
use Rattle.pdl_law_parts.specs.Places.{delayed_count}
use Rattle.pdl_image.specs.Images.{image}
use Rattle.pdl_image.specs.Delays.{delays as delay_rows}
use Rattle.pdl_image.specs.declared.file_error.FileError.TheVariants as file
use Rattle.pdl_asm_table.specs.declared.table_error.TableError.TheVariants as table_error
use Rattle.pdl_asm_table.specs.Tables.{TableValue}
use Rattle.pdl_asm_table.specs.Documents as documents
use Rattle.pdl_asm.specs.declared.asm_error.AsmError.TheVariants as asm_error
use Rattle.pdl_asm.specs.Assembly as assembly
use Rattle.pdl_gen.specs.Generated.{source}
use Rattle.pdl_cli_args.specs.Line.{Command, check, run, seq, asm, gen, build, sim, wave, view}
use Rattle.pdl_cli_failure.specs.declared.failure.Position.{Position}
use Rattle.pdl_cli_failure.specs.declared.failure.Position.TheVariants.{Line, Insn}
use Rattle.pdl_cli_commands.specs.Assembled.{IsWrongTable, IsWrongText}
use Rattle.pdl_cli_commands.specs.Replies.{DelaysRefused}
use Rattle.pdl_cli_commands.specs.Simulated.{IsWrongStart, IsWrongReplies, IsWrongSim}
use Rattle.pdl_cli_commands.specs.Commands.{AtLine, AtInsn, SourceRefused, IsWrongImage, IsWrongDelays, IsWrongRun, IsWrongAsm, IsWrongFor}
use Rattle.pdl_cli_commands.proofs.OneNetlist.{one_netlist, read_right, one_netlist_refusal}
use Rattle.pdl_cli_commands.proofs.RightSources.{kept_unrefused, image_unrefused, start_unrefused}
use Rattle.pdl_cli.proofs.ExitStatus.{one_table}

-- ---- one text

-- a refusal of a source is one
same_some : (a b : Refused) → Some a ≡ Some b → a ≡ b
same_some a b e = cc e

one_refused : (o : Option Refused) (r s : Rule) (n m : ℕ)
    → o ≡ Some (record { rule = r; line = n }) → o ≡ Some (record { rule = s; line = m }) → (r ≡ s) × (n ≡ m)
one_refused o r s n m d e =
    let h = same_some (record { rule = r; line = n }) (record { rule = s; line = m }) (sym d ∙ e) in
    (ap (λ (x : Refused). x.rule) h, ap (λ (x : Refused). x.line) h)

source_one : (b : List ℕ) (r s : Rule) (n m : ℕ) → SourceRefused b r n → SourceRefused b s m → (r ≡ s) × (n ≡ m)
source_one b r s n m (inl x) (inl y) = (x.0 ∙ sym y.0, one_place b n m x.1 y.1)
source_one b r s n m (inl x) (inr y) = absurd (x.1.no_text y.0 y.1)
source_one b r s n m (inr x) (inl y) = absurd (y.1.no_text x.0 x.1)
source_one b r s n m (inr x) (inr y) =
    let q : x.0 ≡ y.0 = one_tree b x.0 y.0 x.1 y.1 in
    let k : refusal b y.0 ≡ Some (record { rule = r; line = n }) = subst (λ (p : Pipe). refusal b p ≡ Some (record { rule = r; line = n })) q x.2 in
    one_refused (refusal b y.0) r s n m k y.2

image_one : (b i : List ℕ) (r s : Rule) (n m : ℕ) → IsWrongImage b i r n → IsWrongImage b i s m → (r ≡ s) × (n ≡ m)
image_one b i r s n m v w =
    let q : v.pipe ≡ w.pipe = one_tree b v.pipe w.pipe v.accepted.text w.accepted.text in
    let k : image (infos_of w.pipe.mems) i ≡ Err (file.Refused r n) = subst (λ (p : Pipe). image (infos_of p.mems) i ≡ Err (file.Refused r n)) q v.refused in
    let l : image (infos_of w.pipe.mems) i ≡ Err (file.Refused s m) = w.refused in
    (cc, cc)

rows_one : (count : ℕ) (d : List ℕ) (r s : Rule) (n m : ℕ) → DelaysRefused count d r n → DelaysRefused count d s m → (r ≡ s) × (n ≡ m)
rows_one count d r s n m v w =
    let k : delay_rows count d ≡ Err (file.Refused r n) = v in
    let l : delay_rows count d ≡ Err (file.Refused s m) = w in
    (cc, cc)

delays_one : (b i d : List ℕ) (r s : Rule) (n m : ℕ) → IsWrongDelays b i d r n → IsWrongDelays b i d s m → (r ≡ s) × (n ≡ m)
delays_one b i d r s n m v w =
    let q : v.pipe ≡ w.pipe = one_tree b v.pipe w.pipe v.loaded.accepted.text w.loaded.accepted.text in
    rows_one (delayed_count (flat w.pipe)) d r s n m (subst (λ (p : Pipe). DelaysRefused (delayed_count (flat p)) d r n) q v.refused) w.refused

start_one : (v i : List ℕ) (r s : Rule) (n m : ℕ) → IsWrongStart v i r n → IsWrongStart v i s m → (r ≡ s) × (n ≡ m)
start_one v i r s n m a b =
    let q : a.netlist ≡ b.netlist = one_netlist v a.netlist b.netlist a.read b.read in
    let k : image b.netlist.mems i ≡ Err (file.Refused r n) = subst (λ (x : Netlist). image x.mems i ≡ Err (file.Refused r n)) q a.refused in
    let l : image b.netlist.mems i ≡ Err (file.Refused s m) = b.refused in
    (cc, cc)

replies_one : (v i d : List ℕ) (r s : Rule) (n m : ℕ) → IsWrongReplies v i d r n → IsWrongReplies v i d s m → (r ≡ s) × (n ≡ m)
replies_one v i d r s n m a b =
    let q : a.netlist ≡ b.netlist = one_netlist v a.netlist b.netlist a.started.read b.started.read in
    rows_one (length (delayed_mems b.netlist)) d r s n m
    (subst (λ (x : Netlist). DelaysRefused (length (delayed_mems x)) d r n) q a.refused) b.refused

table_one : (t : List ℕ) (r s : Rule) (n m : ℕ) → IsWrongTable t r n → IsWrongTable t s m → (r ≡ s) × (n ≡ m)
table_one t r s n m v w =
    let k : documents.table t ≡ Err (table_error.Refused r n) = v in
    let l : documents.table t ≡ Err (table_error.Refused s m) = w in
    (cc, cc)

program_one : (t p : List ℕ) (r s : Rule) (n m : ℕ) → IsWrongText t p r n → IsWrongText t p s m → (r ≡ s) × (n ≡ m)
program_one t p r s n m v w =
    let x : v.value ≡ w.value = one_table t v.value w.value v.tabled w.tabled in
    let k : assembly.image w.value p ≡ Err (asm_error.Refused r n) = subst (λ (y : TableValue). assembly.image y p ≡ Err (asm_error.Refused r n)) x v.refused in
    let l : assembly.image w.value p ≡ Err (asm_error.Refused s m) = w.refused in
    (cc, cc)

table_right : (t : List ℕ) (rule : Rule) (insn : ℕ) (v : TableValue) → documents.table t ≡ Ok v → IsWrongTable t rule insn → ⊥
table_right t rule insn v e w = let k : documents.table t ≡ Err (table_error.Refused rule insn) = w in absurd (cc (e, k))

-- ---- the texts that were read

run_one : (us : List (List ℕ)) (r s : Rule) (n m : ℕ) → IsWrongRun us r n → IsWrongRun us s m → (r ≡ s) × (n ≡ m)
run_one [] r s n m v w = absurd v
run_one (b ∷ []) r s n m v w = source_one b r s n m v w
run_one (b ∷ i ∷ []) r s n m v w = image_one b i r s n m v w
run_one (b ∷ i ∷ d ∷ []) r s n m v w = delays_one b i d r s n m v w
run_one (b ∷ i ∷ d ∷ e ∷ us) r s n m v w = absurd v

-- where the last of some texts is wrong, no text after it is asked
run_longer : (us : List (List ℕ)) (z : List ℕ) (zs : List (List ℕ)) (r s : Rule) (n m : ℕ) → IsWrongRun us r n → IsWrongRun (us ++ z ∷ zs) s m → ⊥
run_longer [] z zs r s n m v w = v
run_longer (b ∷ []) z [] r s n m v w = kept_unrefused b w.pipe r n w.accepted v
run_longer (b ∷ []) z (d ∷ []) r s n m v w = kept_unrefused b w.pipe r n w.loaded.accepted v
run_longer (b ∷ []) z (d ∷ e ∷ zs) r s n m v w = w
run_longer (b ∷ i ∷ []) z [] r s n m v w = image_unrefused b i r n w.pipe w.words w.loaded v
run_longer (b ∷ i ∷ []) z (e ∷ zs) r s n m v w = w
run_longer (b ∷ i ∷ d ∷ []) z zs r s n m v w = w
run_longer (b ∷ i ∷ d ∷ e ∷ us) z zs r s n m v w = v

sim_one : (us : List (List ℕ)) (r s : Rule) (n m : ℕ) → IsWrongSim us r n → IsWrongSim us s m → (r ≡ s) × (n ≡ m)
sim_one [] r s n m v w = absurd v
sim_one (b ∷ []) r s n m v w = one_netlist_refusal b r s n m v w
sim_one (b ∷ i ∷ []) r s n m v w = start_one b i r s n m v w
sim_one (b ∷ i ∷ d ∷ []) r s n m v w = replies_one b i d r s n m v w
sim_one (b ∷ i ∷ d ∷ e ∷ us) r s n m v w = absurd v

sim_longer : (us : List (List ℕ)) (z : List ℕ) (zs : List (List ℕ)) (r s : Rule) (n m : ℕ) → IsWrongSim us r n → IsWrongSim (us ++ z ∷ zs) s m → ⊥
sim_longer [] z zs r s n m v w = v
sim_longer (b ∷ []) z [] r s n m v w = read_right b w.netlist r n w.read v
sim_longer (b ∷ []) z (d ∷ []) r s n m v w = read_right b w.netlist r n w.started.read v
sim_longer (b ∷ []) z (d ∷ e ∷ zs) r s n m v w = w
sim_longer (b ∷ i ∷ []) z [] r s n m v w = start_unrefused b i w.netlist w.words r n w.started v
sim_longer (b ∷ i ∷ []) z (e ∷ zs) r s n m v w = w
sim_longer (b ∷ i ∷ d ∷ []) z zs r s n m v w = w
sim_longer (b ∷ i ∷ d ∷ e ∷ us) z zs r s n m v w = v

asm_one : (us : List (List ℕ)) (r s : Rule) (p q : Position) → IsWrongAsm us r p → IsWrongAsm us s q → (r ≡ s) × (p ≡ q)
asm_one [] r s p q v w = absurd v
asm_one (t ∷ []) r s (Line n) q v w = absurd v
asm_one (t ∷ []) r s (Insn n) (Line m) v w = absurd w
asm_one (t ∷ []) r s (Insn n) (Insn m) v w = let h = table_one t r s n m v w in (h.0, ap Insn h.1)
asm_one (t ∷ p' ∷ []) r s (Insn n) q v w = absurd v
asm_one (t ∷ p' ∷ []) r s (Line n) (Insn m) v w = absurd w
asm_one (t ∷ p' ∷ []) r s (Line n) (Line m) v w = let h = program_one t p' r s n m v w in (h.0, ap Line h.1)
asm_one (t ∷ p' ∷ e ∷ us) r s p q v w = absurd v

asm_longer : (us : List (List ℕ)) (z : List ℕ) (zs : List (List ℕ)) (r s : Rule) (p q : Position) → IsWrongAsm us r p → IsWrongAsm (us ++ z ∷ zs) s q → ⊥
asm_longer [] z zs r s p q v w = v
asm_longer (t ∷ []) z [] r s (Line n) q v w = v
asm_longer (t ∷ []) z [] r s (Insn n) (Insn m) v w = w
asm_longer (t ∷ []) z [] r s (Insn n) (Line m) v w = table_right t r n w.value w.tabled v
asm_longer (t ∷ []) z (e ∷ zs) r s p q v w = w
asm_longer (t ∷ p' ∷ []) z zs r s p q v w = w
asm_longer (t ∷ p' ∷ e ∷ us) z zs r s p q v w = v

-- ---- the commands

line_one : (P : Rule → ℕ → Type 0) → ((r s : Rule) (n m : ℕ) → P r n → P s m → (r ≡ s) × (n ≡ m))
    → (r s : Rule) (p q : Position) → AtLine (P r) p → AtLine (P s) q → (r ≡ s) × (p ≡ q)
line_one P one r s (Insn n) q v w = absurd v
line_one P one r s (Line n) (Insn m) v w = absurd w
line_one P one r s (Line n) (Line m) v w = let h = one r s n m v w in (h.0, ap Line h.1)

line_none : (P Q : Rule → ℕ → Type 0) → ((r s : Rule) (n m : ℕ) → P r n → Q s m → ⊥)
    → (r s : Rule) (p q : Position) → AtLine (P r) p → AtLine (Q s) q → ⊥
line_none P Q none r s (Insn n) q v w = v
line_none P Q none r s (Line n) (Insn m) v w = w
line_none P Q none r s (Line n) (Line m) v w = none r s n m v w

-- over the same texts
same_texts : (command : Command) (us : List (List ℕ)) (r s : Rule) (p q : Position) → IsWrongFor command us r p → IsWrongFor command us s q
    → (r ≡ s) × (p ≡ q)
same_texts (check b) us r s p q v w = line_one (IsWrongRun us) (run_one us) r s p q v w
same_texts (run b i c d) us r s p q v w = line_one (IsWrongRun us) (run_one us) r s p q v w
same_texts (seq b i k) us r s p q v w = line_one (IsWrongRun us) (run_one us) r s p q v w
same_texts (asm t p') us r s p q v w = asm_one us r s p q v w
same_texts (gen number) us r s p q v w = line_one (SourceRefused (source number)) (source_one (source number)) r s p q v w
same_texts (build b) us r s p q v w = line_one (IsWrongRun us) (run_one us) r s p q v w
same_texts (sim n i c d) us r s p q v w = line_one (IsWrongSim us) (sim_one us) r s p q v w
same_texts (wave b i c d) us r s p q v w = line_one (IsWrongRun us) (run_one us) r s p q v w
same_texts (view b i c d) us r s p q v w = line_one (IsWrongRun us) (run_one us) r s p q v w

-- over some of them, and more of them: both are the same, where the files are asked of `gen`, which names none
longer_texts : (command : Command) (us : List (List ℕ)) (z : List ℕ) (zs : List (List ℕ)) (r s : Rule) (p q : Position)
    → IsWrongFor command us r p → IsWrongFor command (us ++ z ∷ zs) s q → (r ≡ s) × (p ≡ q)
longer_texts (check b) us z zs r s p q v w = absurd (line_none (IsWrongRun us) (IsWrongRun (us ++ z ∷ zs)) (run_longer us z zs) r s p q v w)
longer_texts (run b i c d) us z zs r s p q v w = absurd (line_none (IsWrongRun us) (IsWrongRun (us ++ z ∷ zs)) (run_longer us z zs) r s p q v w)
longer_texts (seq b i k) us z zs r s p q v w = absurd (line_none (IsWrongRun us) (IsWrongRun (us ++ z ∷ zs)) (run_longer us z zs) r s p q v w)
longer_texts (asm t p') us z zs r s p q v w = absurd (asm_longer us z zs r s p q v w)
longer_texts (gen number) us z zs r s p q v w = line_one (SourceRefused (source number)) (source_one (source number)) r s p q v w
longer_texts (build b) us z zs r s p q v w = absurd (line_none (IsWrongRun us) (IsWrongRun (us ++ z ∷ zs)) (run_longer us z zs) r s p q v w)
longer_texts (sim n i c d) us z zs r s p q v w = absurd (line_none (IsWrongSim us) (IsWrongSim (us ++ z ∷ zs)) (sim_longer us z zs) r s p q v w)
longer_texts (wave b i c d) us z zs r s p q v w = absurd (line_none (IsWrongRun us) (IsWrongRun (us ++ z ∷ zs)) (run_longer us z zs) r s p q v w)
longer_texts (view b i c d) us z zs r s p q v w = absurd (line_none (IsWrongRun us) (IsWrongRun (us ++ z ∷ zs)) (run_longer us z zs) r s p q v w)

-- ---- how many texts were read

-- one list goes on where another ends
abbrev GoesOn : List (List ℕ) → List (List ℕ) → Type 0
GoesOn us vs = (z : List ℕ) × (zs : List (List ℕ)) × (vs ≡ us ++ z ∷ zs)

with_first : (t : List ℕ) (us vs : List (List ℕ)) → (us ≡ vs) ⊎ (GoesOn us vs ⊎ GoesOn vs us)
    → (t ∷ us ≡ t ∷ vs) ⊎ (GoesOn (t ∷ us) (t ∷ vs) ⊎ GoesOn (t ∷ vs) (t ∷ us))
with_first t us vs (inl e) = inl (ap (λ l. t ∷ l) e)
with_first t us vs (inr (inl g)) = inr (inl (g.0, g.1, ap (λ l. t ∷ l) g.2))
with_first t us vs (inr (inr g)) = inr (inr (g.0, g.1, ap (λ l. t ∷ l) g.2))

-- of the first so many of some texts, and the first so many, one list goes on where the other ends, or they are the same
firsts : (m n : ℕ) (ts : List (List ℕ)) → (take m ts ≡ take n ts) ⊎ (GoesOn (take m ts) (take n ts) ⊎ GoesOn (take n ts) (take m ts))
firsts zero zero ts = inl refl
firsts zero (suc n) [] = inl refl
firsts zero (suc n) (t ∷ ts) = inr (inl (t, take n ts, refl))
firsts (suc m) zero [] = inl refl
firsts (suc m) zero (t ∷ ts) = inr (inr (t, take m ts, refl))
firsts (suc m) (suc n) [] = inl refl
firsts (suc m) (suc n) (t ∷ ts) = with_first t (take m ts) (take n ts) (firsts m n ts)

-- a command over the same texts is refused by one rule at most, at one position
pub one_refusal : (command : Command) (ts : List (List ℕ)) (m n : ℕ) (r s : Rule) (p q : Position)
    → IsWrongFor command (take m ts) r p → IsWrongFor command (take n ts) s q → (r ≡ s) × (p ≡ q)
one_refusal command ts m n r s p q v w = by_lengths (firsts m n ts)
  where
    by_lengths : (take m ts ≡ take n ts) ⊎ (GoesOn (take m ts) (take n ts) ⊎ GoesOn (take n ts) (take m ts)) → (r ≡ s) × (p ≡ q)
    by_lengths (inl e) = same_texts command (take n ts) r s p q (subst (λ us. IsWrongFor command us r p) e v) w
    by_lengths (inr (inl g)) = longer_texts command (take m ts) g.0 g.1 r s p q v (subst (λ us. IsWrongFor command us s q) g.2 w)
    by_lengths (inr (inr g)) =
        let h = longer_texts command (take n ts) g.0 g.1 s r q p w (subst (λ us. IsWrongFor command us r p) g.2 v) in (sym h.0, sym h.1)
