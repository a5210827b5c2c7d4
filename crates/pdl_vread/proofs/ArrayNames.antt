-- The names of a file's arrays begin with `a_`, so the names of their memories are apart where theirs are.
use Rattle.std.proofs.Common.{◌≡◌, ◌≢◌, ℕ, zero, suc, ◌<◌, true, List, [], ◌∷◌, ◌++◌, length, map, take, drop, get_or, codes, bytes_eq, refl, sym, ap, ◌∙◌, subst, arith}
use Rattle.std.specs.List.{AllPairs}
use Rattle.std.proofs.lemmas.Bool.{and_parts}
use Rattle.std.proofs.lemmas.List.{length-map, take-append-drop}
use Rattle.std.proofs.lemmas.Slice.Eq.{bytes_eq-Decides}
use Rattle.pdl_vread_text.specs.declared.field.Field.{Field}
use Rattle.pdl_vread_text.specs.declared.field.Field.TheVariants as field
use Rattle.pdl_vread_text.specs.declared.part.Part.{Part}
use Rattle.pdl_vread_text.specs.declared.rule.VerilogRule.{VerilogRule}
use Rattle.pdl_vread_text.specs.declared.rule.VerilogRule.TheVariants as rule
use Rattle.pdl_vread_text.specs.declared.draft.Draft.{Draft}
use Rattle.pdl_vread_text.specs.declared.file.File.{File}
use Rattle.pdl_vread_text.specs.declared.file.ArrayDecl.{ArrayDecl}
use Rattle.pdl_vread_text.specs.Words.{is_name, is_array}
use Rattle.pdl_vread_text.specs.Grammar.{Row, Taken, AllFit, none, more, Derives, finished, goes, fits, fields}
use Rattle.pdl_vread_text.specs.Drafts.{no_draft, taken, all_taken, text_at}
use Rattle.pdl_vread_text.specs.Text.{IsFile}
use Rattle.pdl_word.specs.Each.{Each}
use Rattle.pdl_word.proofs.Each.{each_push}

abbrev IsArrayName : List ℕ → Type 0
IsArrayName x = take 2 x ≡ codes "a_"

-- the name of a declared array begins with `a_`
abbrev pub IsNamed : ArrayDecl → Type 0
IsNamed a = IsArrayName a.name

array_name : (x : List ℕ) → is_array x ≡ true → IsArrayName x
array_name x h =
    let p = and_parts (bytes_eq (codes "a_") (take 2 x)) (is_name (drop 2 x)) h in
    sym ((bytes_eq-Decides (codes "a_") (take 2 x)).0 p.0)

first_name : (gs later : List Field) (ts : Row) → AllFit gs ts → gs ≡ field.ArrayName ∷ later → IsArrayName (text_at ts 0)
first_name _ later _ none e = absurd (cc)
first_name _ later _ (more {g = g} {t = t} q rest) e =
    let i : g ≡ field.ArrayName = cc in
    array_name t.text (subst (λ z. fits z t.text ≡ true) i q)

taken_named : (d : Draft) (ru : VerilogRule) (ts : Row) → AllFit (fields ru) ts → Each IsNamed d.file.arrays
    → Each IsNamed (taken d ru ts).file.arrays
taken_named d rule.ArrayDeclared ts a h = each_push IsNamed d.file.arrays _ h (first_name (fields rule.ArrayDeclared) _ ts a refl)
taken_named d _ ts a h = h

all_named : (part : Part) (row : Row) (rs : List Taken) → Derives part row rs → (d : Draft) → Each IsNamed d.file.arrays
    → Each IsNamed (all_taken d rs).file.arrays
unfolding all_taken
all_named _ _ _ finished d h = h
all_named part _ _ (goes {rule = ru} {t = t} {ts = ts} {rest = rest} {more = rs} c a i) d h =
    all_named _ rest rs i (taken d ru (t ∷ ts)) (taken_named d ru (t ∷ ts) a h)

-- all arrays that a text declares have names that begin with `a_`
pub file_named : (bytes : List ℕ) (f : File) → IsFile bytes f → Each IsNamed f.arrays
file_named bytes f h = subst (λ (z : File). Each IsNamed z.arrays) (sym h.same) (all_named _ _ h.rules h.derives no_draft tt)

same_rest : (x y : List ℕ) → IsArrayName x → IsArrayName y → drop 2 x ≡ drop 2 y → x ≡ y
same_rest x y h k e = sym (take-append-drop 2 x) ∙ (ap (λ z. z ++ drop 2 x) (h ∙ sym k) ∙ (ap (λ z. take 2 y ++ z) e ∙ take-append-drop 2 y))

-- the j-th name of a list is the name of its j-th element
pub get_mapped : {A : Type 0} (name : A → List ℕ) (xs : List A) (j : ℕ) (z : List ℕ) (d : A)
    → j < length xs → get_or (map name xs) j z ≡ name (get_or xs j d)
get_mapped name [] j z d l = absurd (omega arith)
get_mapped name (x ∷ xs) zero z d l = refl
get_mapped name (x ∷ xs) (suc j) z d l = get_mapped name xs j z d (omega arith)

each_get : {A : Type 0} (P : A → Type 0) (xs : List A) (i : ℕ) (d : A) → Each P xs → i < length xs → P (get_or xs i d)
each_get P [] i d h l = absurd (omega arith)
each_get P (x ∷ xs) zero d h l = h.0
each_get P (x ∷ xs) (suc i) d h l = each_get P xs i d h.1 (omega arith)

-- the names of memories are apart where those of their arrays are
pub apart_rests : (xs : List ArrayDecl) → Each IsNamed xs → AllPairs (λ a b. a ≢ b) (map (λ a. a.name) xs)
    → AllPairs (λ a b. a ≢ b) (map (λ a. drop 2 a.name) xs)
apart_rests xs h p = λ i j d l m q.
    let n = length-map xs (λ (a : ArrayDecl). drop 2 a.name) in
    let o = length-map xs (λ (a : ArrayDecl). a.name) in
    let b : j < length xs = omega arith in
    let a : i < length xs = omega arith in
    let blank : ArrayDecl = record { line = 0; name = []; high = 0; last = 0 } in
    let x = get_or xs i blank in
    let y = get_or xs j blank in
    let e : drop 2 x.name ≡ drop 2 y.name =
    sym (get_mapped (λ (a : ArrayDecl). drop 2 a.name) xs i d blank a) ∙ (q ∙ get_mapped (λ (a : ArrayDecl). drop 2 a.name) xs j d blank b) in
    let s : x.name ≡ y.name = same_rest x.name y.name (each_get IsNamed xs i blank h a) (each_get IsNamed xs j blank h b) e in
    p i j d l (omega arith) (get_mapped (λ (a : ArrayDecl). a.name) xs i d blank a ∙ (s ∙ sym (get_mapped (λ (a : ArrayDecl). a.name) xs j d blank b)))
