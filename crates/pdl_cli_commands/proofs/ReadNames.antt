-- The memories of a netlist that is read have names of at most 32 characters: those of its arrays, and of the inputs of its delayed memories.
use Rattle.std.proofs.Common.{◌≡◌, ℕ, zero, suc, ◌≤◌, Bool, true, false, ◌&&◌, ◌||◌, List, [], ◌∷◌, ◌++◌, length, map, drop, flat_map, find, bytes_eq, All, Some, slice_get, codes, inl, inr, refl, sym, ◌∙◌, subst, append_assoc, arith}
use Rattle.std.specs.Prelude.{nat_lt, not}
use Rattle.std.specs.List.{AllByRecursion, list_all, range_with_len}
use Rattle.std.proofs.lemmas.Bool.{and_parts, or_cases, ltb-true}
use Rattle.std.proofs.lemmas.List.Elements.{All-from_recursion, All-append}
use Rattle.pdl_kit.specs.declared.mem_info.MemInfo.{MemInfo}
use Rattle.pdl_net.specs.declared.Array.{Array}
use Rattle.pdl_net.specs.declared.Port.{Port}
use Rattle.pdl_net.specs.declared.Netlist.{Netlist}
use Rattle.pdl_net.specs.Pipe.{Head, PortMem, head_of, output, reply_ports, stage_ports, commit_ports, request_ports, pipe_ports, delayed_info}
use Rattle.pdl_net.proofs.PipeMems.{told, told_name}
use Rattle.pdl_vread_text.specs.declared.field.Field.{Field}
use Rattle.pdl_vread_text.specs.declared.field.Field.TheVariants as field
use Rattle.pdl_vread_text.specs.declared.part.Part.{Part}
use Rattle.pdl_vread_text.specs.declared.rule.VerilogRule.{VerilogRule}
use Rattle.pdl_vread_text.specs.declared.rule.VerilogRule.TheVariants as rule
use Rattle.pdl_vread_text.specs.declared.draft.Draft.{Draft}
use Rattle.pdl_vread_text.specs.declared.file.File.{File}
use Rattle.pdl_vread_text.specs.declared.file.ArrayDecl.{ArrayDecl}
use Rattle.pdl_vread_text.specs.declared.file.PortDecl.{PortDecl}
use Rattle.pdl_vread_text.specs.Tokens.{is_lower}
use Rattle.pdl_vread_text.specs.Words.{is_name_byte, has_name_form, is_name, is_statement_keyword, is_declaration_keyword, is_array, is_port}
use Rattle.pdl_vread_text.specs.Grammar.{Row, Taken, AllFit, none, more, Derives, finished, goes, fits, fields}
use Rattle.pdl_vread_text.specs.Drafts.{no_draft, with_port, taken, all_taken, text_at}
use Rattle.pdl_vread_text.specs.Text.{IsFile}
use Rattle.pdl_vread_nets.specs.declared.wiring.ArrayWrite.{ArrayWrite}
use Rattle.pdl_vread_nets.specs.declared.wiring.OutputDrive.{OutputDrive}
use Rattle.pdl_vread.specs.Built.{arrays, built, ports}
use Rattle.pdl_vread.specs.Reads.{Reads}

-- ---- names

form_short : (t : List ℕ) → has_name_form t ≡ true → length t ≤ 32
form_short [] h = omega arith
form_short (c ∷ cs) h =
    let p = and_parts (is_lower c) (nat_lt (length cs) 32 && list_all is_name_byte cs) h in
    let n = ltb-true (length cs) 32 (and_parts (nat_lt (length cs) 32) (list_all is_name_byte cs) p.1).0 in
    omega (arith, n)

name_short : (t : List ℕ) → is_name t ≡ true → length t ≤ 32
unfolding is_name
name_short t h =
    form_short t
    (and_parts (has_name_form t) (not (is_statement_keyword t))
    (and_parts (has_name_form t && not (is_statement_keyword t)) (not (is_declaration_keyword t)) h).0).0

-- an array's, after `a_`
abbrev IsShort : List ℕ → Type 0
IsShort x = length (drop 2 x) ≤ 32

array_short : (x : List ℕ) → is_array x ≡ true → IsShort x
array_short x h = name_short (drop 2 x) (and_parts _ (is_name (drop 2 x)) h).1

-- an input's, after `p_`
IsInputShort : List ℕ → Type 0
IsInputShort x = (name : List ℕ) → x ≡ codes "p_" ++ name → length name ≤ 32

input_named : (name : List ℕ) → is_port (codes "p_" ++ name) ≡ true → is_name name ≡ true
unfolding is_port
input_named name h = elim (or_cases (is_name name || false) false h) [
  | inl k ↦ elim (or_cases (is_name name) false k) [ inl e ↦ e | inr e ↦ absurd (cc e) ]
  | inr e ↦ absurd (cc e)
]

port_short : (x : List ℕ) → is_port x ≡ true → IsInputShort x
unfolding IsInputShort
port_short x h name e = name_short name (input_named name (subst (λ y. is_port y ≡ true) e h))

-- ---- of a file

-- those of its arrays and of its ports
record AreShort (f : File) : Type 0 where
  arrays : AllByRecursion (λ (d : ArrayDecl). IsShort d.name) f.arrays
  ports : AllByRecursion (λ (d : PortDecl). IsInputShort d.name) f.ports

-- a token of a rule is what is asked of it
text_fits : (gs : List Field) (ts : Row) (i : ℕ) (g : Field) → AllFit gs ts → slice_get gs i ≡ Some g → fits g (text_at ts i) ≡ true
text_fits _ _ i g none e = absurd (cc e)
text_fits _ _ zero g (more {g = h} {t = t} q rest) e = let same : h ≡ g = cc e in subst (λ x. fits x t.text ≡ true) same q
text_fits _ _ (suc i) g (more {gs = gs} {ts = ts} q rest) e = text_fits gs ts i g rest e

all_more : {X : Type 0} (P : X → Type 0) (xs : List X) (x : X) → AllByRecursion P xs → P x → AllByRecursion P (xs ++ x ∷ [])
all_more P [] x h p = (p, tt)
all_more P (y ∷ ys) x h p = (h.0, all_more P ys x h.1 p)

-- one port more
port_more : (d : Draft) (input : Bool) (ts : Row) → is_port (text_at ts 7) ≡ true → AreShort d.file → AreShort (with_port d input ts).file
port_more d input ts a h =
    record { arrays = h.arrays; ports = all_more (λ (d : PortDecl). IsInputShort d.name) d.file.ports _ h.ports (port_short (text_at ts 7) a) }

taken_short : (d : Draft) (r : VerilogRule) (ts : Row) → AllFit (fields r) ts → AreShort d.file → AreShort (taken d r ts).file
taken_short d rule.ArrayDeclared ts a h = record {
  arrays =
      all_more (λ (d : ArrayDecl). IsShort d.name) d.file.arrays _ h.arrays
      (array_short (text_at ts 0) (text_fits (fields rule.ArrayDeclared) ts 0 field.ArrayName a refl));
  ports = h.ports;
}
taken_short d rule.InputPort ts a h = port_more d true ts (text_fits (fields rule.InputPort) ts 7 field.PortName a refl) h
taken_short d rule.OutputPort ts a h = port_more d false ts (text_fits (fields rule.OutputPort) ts 7 field.PortName a refl) h
taken_short d _ ts a h = record { arrays = h.arrays; ports = h.ports }

all_short : (part : Part) (row : Row) (rs : List Taken) → Derives part row rs → (d : Draft) → AreShort d.file
    → AreShort (all_taken d rs).file
unfolding all_taken
all_short _ _ _ finished d h = h
all_short part _ _ (goes {rule = r} {t = t} {ts = ts} {rest = rest} {more = rs} c a i) d h =
    all_short _ rest rs i (taken d r (t ∷ ts)) (taken_short d r (t ∷ ts) a h)

file_short : (bytes : List ℕ) (f : File) → IsFile bytes f → AreShort f
file_short bytes f h = subst AreShort (sym h.same) (all_short _ _ h.rules h.derives no_draft (record { arrays = tt; ports = tt }))

-- ---- of its netlist

array_names : (blocks : List (List ArrayWrite)) (m : ℕ) (ds : List ArrayDecl)
    → AllByRecursion (λ (d : ArrayDecl). IsShort d.name) ds
    → AllByRecursion (λ (a : Array). length a.name ≤ 32) (arrays blocks m ds)
array_names blocks m [] h = tt
array_names blocks m (d ∷ ds) h = (h.0, array_names blocks (suc m) ds h.1)

port_names : (drives : List OutputDrive) (i : ℕ) (ds : List PortDecl)
    → AllByRecursion (λ (d : PortDecl). IsInputShort d.name) ds
    → AllByRecursion (λ (p : Port). IsInputShort p.name) (ports drives i ds)
port_names drives i [] h = tt
port_names drives i (d ∷ ds) h = (h.0, port_names drives (suc i) ds h.1)

heads_short : (ps : List Port) → AllByRecursion (λ (p : Port). IsInputShort p.name) ps
    → AllByRecursion (λ (h : Head). IsInputShort h.name) (map head_of ps)
heads_short [] h = tt
heads_short (p ∷ ps) h = (h.0, heads_short ps h.1)

-- the delayed memories, whose inputs stand first
delayed_short : (ds : List PortMem) (rest : List Head)
    → AllByRecursion (λ (h : Head). IsInputShort h.name) (flat_map reply_ports ds ++ rest)
    → AllByRecursion (λ (m : MemInfo). length m.name ≤ 32) (map delayed_info ds)
unfolding IsInputShort
delayed_short [] rest h = tt
delayed_short (d ∷ ds) rest h = (h.0 d.name refl, delayed_short ds rest h.1.1)

told_short : (locked : List PortMem) (xs : List Array)
    → AllByRecursion (λ (a : Array). length a.name ≤ 32) xs
    → AllByRecursion (λ (m : MemInfo). length m.name ≤ 32) (map (told locked) xs)
told_short locked [] h = tt
told_short locked (a ∷ xs) h = (subst (λ x. length x ≤ 32) (sym (told_name a (find (λ m. bytes_eq m.name a.name) locked))) h.0, told_short locked xs h.1)

-- the names of the memories of a netlist that is read are short
pub mems_short : (bytes : List ℕ) (n : Netlist) → Reads bytes n → All (λ m. length m.name ≤ 32) n.mems
unfolding built
mems_short bytes n r =
    let p = r.netlist.pipe in
    let file = file_short bytes r.file r.text in
    let w = r.netlist.wiring in
    let later =
    flat_map stage_ports (range_with_len 0 p.stages)
    ++ (flat_map commit_ports p.locked ++ (flat_map request_ports p.delayed ++ (output (codes "ended") 1 ∷ output (codes "squash") 1 ∷ []))) in
    let split : pipe_ports p.stages p.delayed p.locked ≡ flat_map reply_ports p.delayed ++ later = simp append_assoc in
    let ps : AllByRecursion (λ (p : Port). IsInputShort p.name) n.ports =
    subst (λ (x : Netlist). AllByRecursion (λ (p : Port). IsInputShort p.name) x.ports) (sym r.netlist.same)
    (port_names w.outputs 0 r.file.ports file.ports) in
    let xs : AllByRecursion (λ (a : Array). length a.name ≤ 32) n.arrays =
    subst (λ (x : Netlist). AllByRecursion (λ (a : Array). length a.name ≤ 32) x.arrays) (sym r.netlist.same)
    (array_names w.blocks 0 r.file.arrays file.arrays) in
    let heads = subst (AllByRecursion (λ (h : Head). IsInputShort h.name)) (p.ports ∙ split) (heads_short n.ports ps) in
    subst (All (λ (m : MemInfo). length m.name ≤ 32)) (sym p.mems)
    (All-append (λ m. length m.name ≤ 32) (map delayed_info p.delayed) (map (told p.locked) n.arrays)
    (All-from_recursion (λ m. length m.name ≤ 32) (map delayed_info p.delayed) (delayed_short p.delayed later heads))
    (All-from_recursion (λ m. length m.name ≤ 32) (map (told p.locked) n.arrays) (told_short p.locked n.arrays xs)))
