-- Texts without blanks at their ends, and what stands before a comment.
use Rattle.std.proofs.Common.{◌≡◌, ℕ, true, false, List, [], ◌∷◌, ◌++◌, length, ◌+◌, ◌-◌, ◌≤◌, take, drop, get_or, arith, subst, refl, ap, sym, ◌∙◌, append_assoc, if◌then◌else◌}
use Rattle.std.proofs.lemmas.List.{take_all, take_more, take_rest}
use Rattle.pdl_asm.specs.Lines.{is_blank, is_comment, onto_trimmed, trim_end, without_comment}

-- a blank at the end goes
end_blank : (xs : List ℕ) (c : ℕ) → is_blank c ≡ true → trim_end (xs ++ c ∷ []) ≡ trim_end xs
end_blank [] c h = ap (λ b. if b then [] else c ∷ []) h
end_blank (x ∷ xs) c h = ap (onto_trimmed x) (end_blank xs c h)

-- what ends in another byte stays
onto_kept : (x : ℕ) (xs : List ℕ) (c : ℕ) → onto_trimmed x (xs ++ c ∷ []) ≡ x ∷ (xs ++ c ∷ [])
onto_kept x [] c = refl
onto_kept x (y ∷ xs) c = refl

end_kept : (xs : List ℕ) (c : ℕ) → is_blank c ≡ false → trim_end (xs ++ c ∷ []) ≡ xs ++ c ∷ []
end_kept [] c h = ap (λ b. if b then [] else c ∷ []) h
end_kept (x ∷ xs) c h = ap (onto_trimmed x) (end_kept xs c h) ∙ onto_kept x xs c

-- so much of a text stands before the rest, and there is no comment in it
pub record Before (text rest : List ℕ) : Type 0 where
  pub front : List ℕ
  pub whole : front ++ rest ≡ text
  pub free : front ++ without_comment rest ≡ without_comment text

-- one byte more stands before the rest, still free of comments, where no comment begins at that byte
pub before_more : (text : List ℕ) (c : ℕ) (cs : List ℕ) → Before text (c ∷ cs) → is_comment (c ∷ cs) ≡ false → Before text cs
before_more text c cs f h =
    record {
      front = f.front ++ c ∷ [];
      whole = append_assoc f.front (c ∷ []) cs ∙ f.whole;
      free = append_assoc f.front (c ∷ []) (without_comment cs) ∙ sym (ap (λ b. f.front ++ (if b then [] else c ∷ without_comment cs)) h) ∙ f.free;
    }

-- ---- the same, of slices as code makes them

last_split : (xs : List ℕ) (d : ℕ) → 1 ≤ length xs → xs ≡ take (length xs - 1) xs ++ get_or xs (length xs - 1) d ∷ []
last_split xs d h =
    let e : length xs - 1 + 1 ≡ length xs = omega arith in
    sym (ap (λ n. take n xs) e ∙ take_all (length xs) xs (omega arith)) ∙ take_more xs (length xs - 1) d (omega arith)

-- a text that ends in a blank has, without its blanks at the end, the same left as without that blank
pub trim_more : (xs : List ℕ) (d : ℕ)
    → 1 ≤ length xs → is_blank (get_or xs (length xs - 1) d) ≡ true → trim_end (take (length xs - 1) xs) ≡ trim_end xs
trim_more xs d h b = sym (end_blank (take (length xs - 1) xs) _ b) ∙ ap trim_end (sym (last_split xs d h))

-- a text whose last byte is no blank has no blanks at its end
pub trim_whole : (xs : List ℕ) (d : ℕ) → 1 ≤ length xs → is_blank (get_or xs (length xs - 1) d) ≡ false → xs ≡ trim_end xs
trim_whole xs d h b = last_split xs d h ∙ sym (end_kept (take (length xs - 1) xs) _ b) ∙ ap trim_end (sym (last_split xs d h))

-- a byte at which no comment begins comes to what stands before the rest
pub before_rest : (text xs : List ℕ)
    → 1 ≤ length xs → is_comment xs ≡ false → Before text xs → Before text (take (length xs - 1) (drop 1 xs))
before_rest text [] h b f = absurd (omega (arith, h))
before_rest text (c ∷ cs) h b f =
    let e : take (length (c ∷ cs) - 1) (drop 1 (c ∷ cs)) ≡ cs = take_rest (c ∷ cs) 1 in
    subst (Before text) (sym e) (before_more text c cs f b)
