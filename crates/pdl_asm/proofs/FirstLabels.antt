-- The labels that lines define are the first ones of all labels.
use Rattle.std.proofs.Common.{◌≡◌, ℕ, zero, suc, ◌+◌, ◌≤◌, refl, sym, ◌∙◌, ap, subst, Bool, true, false, List, [], ◌∷◌, ◌++◌, take, fold, append_assoc, append-nil, ℤ, arith, Option, Some, None, is_some, if◌then◌else◌}
use Rattle.pdl_kit.specs.declared.rule.Rule.{Rule}
use Rattle.pdl_kit.specs.declared.rule.Rule.TheVariants.{A6}
use Rattle.pdl_asm_table.specs.Dictionaries.{value_of}
use Rattle.pdl_asm_table.specs.Tables.{TableValue}
use Rattle.pdl_asm.specs.declared.line.AssemblyLine.{AssemblyLine}
use Rattle.pdl_asm.specs.Values.{Labels, lower}
use Rattle.pdl_asm.specs.Assembly.{Placed, defined_by, label_of, label_rule, labels_of, line_rule, operation_rule, with_label, with_line}
use Rattle.pdl_asm.proofs.LineSteps.{Taken, none_left}

-- labels of which the first are these
abbrev BeginsWith : Labels → Labels → Type 0
BeginsWith labels first = (more : Labels) × (labels ≡ first ++ more)

grown : (b : Bool) (xs ys : Labels) → BeginsWith (if b then xs else xs ++ ys) xs
grown true xs ys = ([], sym (append-nil xs))
grown false xs ys = (ys, refl)

one_more : (xs : Labels) (place : ℤ) (label : Option (List ℕ)) → BeginsWith (with_label xs place label) xs
one_more xs place None = ([], sym (append-nil xs))
one_more xs place (Some name) = grown (is_some (value_of xs name)) xs ((name, place) ∷ [])

extends : (xs : Labels) (ps : List Placed) → BeginsWith (fold with_line xs ps) xs
extends xs [] = ([], sym (append-nil xs))
extends xs (p ∷ ps) =
    let h = extends (with_line xs p) ps in
    let g = one_more xs p.place (label_of p.line) in
    (g.0 ++ h.0, h.1 ∙ ap (λ ys. ys ++ h.0) g.1 ∙ append_assoc xs g.0 h.0)

folds : (xs : Labels) (ps qs : List Placed) → fold with_line xs (ps ++ qs) ≡ fold with_line (fold with_line xs ps) qs
folds xs [] qs = refl
folds xs (p ∷ ps) qs = folds (with_line xs p) ps qs

-- all labels begin with those up to a line
begins : (t : TableValue) (labels before : Labels) (all rest : List Placed) (number : ℕ) (p : Placed) (slots : List (Option ℕ))
    → labels ≡ labels_of all → Taken t labels all number (p ∷ rest) before slots
    → BeginsWith labels (with_line before p)
begins t labels before all rest number p slots e f =
    let h = extends (with_line (labels_of f.done) p) rest in
    let g : labels ≡ fold with_line (with_line (labels_of f.done) p) rest = e ∙ ap labels_of (sym f.whole) ∙ folds [] f.done (p ∷ rest) in
    let P : Labels → Type 0 = λ ls. BeginsWith labels (with_line ls p) in
    subst P (sym f.defined) (h.0, g ∙ h.1)

take_next : {X : Type 0} (xs : List X) (n : ℕ) (x : X) (more : List X)
    → xs ≡ (take n xs ++ x ∷ []) ++ more → take (suc n) xs ≡ take n xs ++ x ∷ []
take_next xs zero x more e = ap (take 1) e
take_next [] (suc n) x more e = cc
take_next (y ∷ ys) (suc n) x more e =
    let f : ys ≡ (take n ys ++ x ∷ []) ++ more = cc e in
    ap (λ zs. y ∷ zs) (take_next ys n x more f)

not_defined : (o : Option Rule) (b : Bool) → lower o (if b then Some A6 else None) ≡ None → b ≡ false
not_defined o true e =
    let P : Option Rule → Type 0 = λ p. lower p (Some A6) ≡ None in
    let f : Some A6 ≡ None = subst P (none_left o (Some A6) e) e in
    cc
not_defined o false e = refl

next_label : (labels : Labels) (n : ℕ) (place : ℤ) (o : Option Rule) (name : List ℕ) (b : Bool)
    → b ≡ is_some (value_of (take n labels) name) → lower o (if b then Some A6 else None) ≡ None
    → BeginsWith labels (if b then take n labels else take n labels ++ (name, place) ∷ [])
    → take (n + 1) labels ≡ (if b then take n labels else take n labels ++ (name, place) ∷ [])
next_label labels n place o name true d e h = absurd (let f : true ≡ false = not_defined o true e in cc f)
next_label labels n place o name false d e h =
    let s : n + 1 ≡ suc n = omega arith in
    ap (λ k. take k labels) s ∙ take_next labels n (name, place) h.0 h.1

next_of : (labels : Labels) (n : ℕ) (place : ℤ) (o : Option Rule) (label : Option (List ℕ))
    → lower o (label_rule (take n labels) label) ≡ None → BeginsWith labels (with_label (take n labels) place label)
    → take (if is_some label then n + 1 else n) labels ≡ with_label (take n labels) place label
next_of labels n place o None e h = refl
next_of labels n place o (Some name) e h = next_label labels n place o name (is_some (value_of (take n labels) name)) refl e h

next_line : (t : TableValue) (labels : Labels) (n : ℕ) (taken : Bool) (place : ℤ) (line : Option AssemblyLine)
    → line_rule t labels (take n labels) taken place line ≡ None
    → BeginsWith labels (with_label (take n labels) place (label_of line))
    → take (defined_by n line) labels ≡ with_label (take n labels) place (label_of line)
next_line t labels n taken place None e h = refl
next_line t labels n taken place (Some l) e h = next_of labels n place (operation_rule t labels taken place l.operation) l.label e h

if_few : (b : Bool) (n : ℕ) → (if b then n + 1 else n) ≤ n + 1
if_few true n = omega arith
if_few false n = omega arith

-- a line defines at most one label
pub defined_few : (n : ℕ) (line : Option AssemblyLine) → defined_by n line ≤ n + 1
defined_few n line = if_few (is_some (label_of line)) n

-- the labels that are defined after a line that breaks no rule
pub defined_next : (t : TableValue) (labels : Labels) (n m : ℕ) (all rest : List Placed) (number : ℕ) (place : ℤ)
    (line : Option AssemblyLine) (taken : Bool) (slots : List (Option ℕ))
    → labels ≡ labels_of all
    → Taken t labels all number (record { place = place; line = line } ∷ rest) (take n labels) slots
    → line_rule t labels (take n labels) taken place line ≡ None → m ≡ defined_by n line
    → take m labels ≡ with_label (take n labels) place (label_of line)
defined_next t labels n m all rest number place line taken slots e f g h =
    ap (λ k. take k labels) h
    ∙ next_line t labels n taken place line g (begins t labels (take n labels) all rest number (record { place = place; line = line }) slots e f)
