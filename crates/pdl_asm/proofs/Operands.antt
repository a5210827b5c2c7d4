-- Operands read so far, and what comes after them.
use Rattle.std.proofs.Common.{◌≡◌, ℕ, zero, suc, ◌<◌, ◌≤◌, arith, inl, inr, false, ◌==◌, List, [], ◌∷◌, ◌++◌, Option, Some, None, option_map, refl, ap, sym, subst, ◌∙◌, append_assoc, append-nil, ◌+◌, ◌-◌, length, take, drop, eqb, if◌then◌else◌}
use Rattle.std.specs.List.{position, slice_split}
use Rattle.std.proofs.lemmas.Bool.{cases_lt, lt-leb}
use Rattle.std.proofs.lemmas.List.{length-append, length-take-le, take-append-le, take_all, take_rest}
use Rattle.pdl_image.proofs.Parts.{parts_at, parts_whole}
use Rattle.pdl_asm.specs.Lines.{counted, operand_of, operands_given, operands_in, operands_of, without_blanks, with_operand}
use Rattle.pdl_asm.specs.declared.line.Operand.{Operand}
use Rattle.pdl_asm.specs.declared.line.Operands.TheVariants.{Few, TooMany}

-- the operands read so far and those to come, if all are read
abbrev pub joined : List Operand → Option (List Operand) → Option (List Operand)
joined xs (Some ys) = Some (xs ++ ys)
joined xs None = None

joined-cons : (xs : List Operand) (x : Operand) (o : Option (List Operand)) → joined (xs ++ x ∷ []) o ≡ joined xs (with_operand (Some x) o)
joined-cons xs x (Some ys) = ap (λ zs. Some zs) (append_assoc xs (x ∷ []) ys)
joined-cons xs x None = refl

-- with one operand read more, the operands read and those to come are the same as before
pub next : (ops more : List Operand) (x : Operand) (part : List ℕ) (ps rest : List (List ℕ)) (whole : Option (List Operand))
    → more ≡ ops ++ x ∷ [] → operand_of (without_blanks part) ≡ Some x → rest ≡ part ∷ ps
    → joined ops (operands_in rest) ≡ whole → joined more (operands_in ps) ≡ whole
next ops more x part ps rest whole e f g h =
    ap (λ o. joined o (operands_in ps)) e ∙ joined-cons ops x (operands_in ps)
    ∙ ap (λ o. joined ops (with_operand o (operands_in ps))) (sym f) ∙ ap (λ r. joined ops (operands_in r)) (sym g)
    ∙ h

-- what was read before, of which one too many is kept, and what is to come are all
pub record Read (kept : List Operand) (later all : Option (List Operand)) : Type 0 where
  pub read : List Operand
  pub kept_is : kept ≡ take 65 read
  pub few : length kept ≤ 65
  pub whole : joined read later ≡ all

take_push : (n : ℕ) (xs : List Operand) (x : Operand) → take n (take n xs ++ x ∷ []) ≡ take n (xs ++ x ∷ [])
take_push zero xs x = refl
take_push (suc n) [] x = refl
take_push (suc n) (y ∷ ys) x = ap (λ zs. y ∷ zs) (take_push n ys x)

few_taken : (n : ℕ) (xs : List Operand) → length (take n xs) ≤ n
few_taken n xs = elim (cases_lt n (length xs)) [
  | inl h ↦ let m : length (take n xs) ≡ n = length-take-le n xs (omega (arith, h)) in omega (arith, m)
  | inr h ↦ let m : length (take n xs) ≡ length xs = ap length (take_all n xs (omega (arith, h))) in omega (arith, m, h)
]

-- an operand more, where there is room for it
pub kept_more : (xs : List Operand) (x : Operand) → length xs ≤ 64 → xs ++ x ∷ [] ≡ take 65 (xs ++ x ∷ [])
kept_more xs x h =
    sym (take_all 65 (xs ++ x ∷ []) (let n : length (xs ++ x ∷ []) ≡ length xs + length (x ∷ []) = length-append xs (x ∷ []) in omega (arith, n, h)))

-- no operand more, where there are too many
pub kept_full : (xs : List Operand) (x : Operand) → length xs ≡ 65 → xs ≡ take 65 (xs ++ x ∷ [])
kept_full xs x h = sym (take-append-le 65 xs (x ∷ []) (omega (arith, h)) ∙ take_all 65 xs (omega (arith, h)))

none_read : (all : Option (List Operand)) → Read [] all all
none_read None = record { read = []; kept_is = refl; few = omega arith; whole = refl }
none_read (Some ys) = record { read = []; kept_is = refl; few = omega arith; whole = refl }

-- nothing is read yet of a text that is not empty
pub started : (text : List ℕ) → false ≡ (length text == 0) → Read [] (operands_in (slice_split (λ d. d == 44) text)) (operands_of text)
started [] e = cc
started (c ∷ cs) e = none_read (operands_in (slice_split (λ d. d == 44) (c ∷ cs)))

-- with one operand read more, of which one too many is kept, what was read and what is to come are all
pub read_more : (ops more : List Operand) (x : Operand) (part : List ℕ) (ps rest : List (List ℕ)) (whole : Option (List Operand))
    → more ≡ take 65 (ops ++ x ∷ []) → operand_of (without_blanks part) ≡ Some x → rest ≡ part ∷ ps
    → Read ops (operands_in rest) whole → Read more (operands_in ps) whole
read_more ops more x part ps rest whole e f g h = record {
  read = h.read ++ x ∷ [];
  kept_is = e ∙ ap (λ zs. take 65 (zs ++ x ∷ [])) h.kept_is ∙ take_push 65 h.read x;
  few = subst (λ n. n ≤ 65) (sym (ap length e)) (few_taken 65 (ops ++ x ∷ []));
  whole = next h.read (h.read ++ x ∷ []) x part ps rest whole refl f g h.whole;
}

counted_many : (xs : List Operand) → 64 < length xs → counted xs ≡ TooMany
counted_many xs h = ap (λ b. if b then Few xs else TooMany) (lt-leb (length xs) 64 h)

counted_kept : (kept read : List Operand) → kept ≡ take 65 read → counted kept ≡ counted read
counted_kept kept read e = elim (cases_lt 64 (length read)) [
  | inl h ↦
      let n : length kept ≡ 65 = ap length e ∙ length-take-le 65 read h in
      counted_many kept (omega (arith, n)) ∙ sym (counted_many read h)
  | inr h ↦ ap counted (e ∙ take_all 65 read (omega (arith, h)))
]

-- where nothing is to come, the kept operands are counted as the text gives them
pub all_read : (kept : List Operand) (text : List ℕ) → Read kept (Some []) (operands_of text) → Some (counted kept) ≡ operands_given text
all_read kept text h =
    let whole : Some h.read ≡ operands_of text = ap (λ zs. Some zs) (sym (append-nil h.read)) ∙ h.whole in
    ap (λ os. Some os) (counted_kept kept h.read h.kept_is) ∙ ap (option_map counted) whole

-- how much is to come
abbrev pub left : Option (List ℕ) → ℕ
left None = 0
left (Some text) = 1 + length text

-- a text cut at its first comma
pub commas_at : (xs : List ℕ) (i : ℕ) → position (λ c. eqb c 44) xs ≡ Some i
    → slice_split (λ c. eqb c 44) xs ≡ take i xs ∷ slice_split (λ c. eqb c 44) (take (length xs - (i + 1)) (drop (i + 1) xs))
commas_at xs i e = rw take_rest (parts_at (λ c. eqb c 44) xs i e)

-- a text without a comma is its only part
pub commas_none : (xs : List ℕ) → position (λ c. eqb c 44) xs ≡ None → slice_split (λ c. eqb c 44) xs ≡ xs ∷ []
commas_none xs e = parts_whole (λ c. eqb c 44) xs e
