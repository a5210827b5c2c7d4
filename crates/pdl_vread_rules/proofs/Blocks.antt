-- The writes of blocks, one block after another.
use Rattle.std.proofs.Common.{◌≡◌, ◌⊎◌, inl, inr, ℕ, ◌+◌, ◌<◌, ◌≤◌, Bool, true, false, cond, min, List, [], ◌∷◌, ◌++◌, length, drop, get_or, Option, Some, None, Err, refl, sym, ap, ◌∙◌, subst, arith}
use Rattle.std.proofs.lemmas.List.{drop_more, drop_all}
use Rattle.std.proofs.lemmas.Bool.{cases_lt}
use Rattle.pdl_vread_text.specs.declared.file.ArrayBlock.{ArrayBlock}
use Rattle.pdl_vread_nets.specs.declared.wiring.ArrayWrite.{ArrayWrite}
use Rattle.pdl_vread_nets.specs.declared.passes.PassStop.{PassStop}
use Rattle.pdl_vread_rules.specs.declared.table.Widths.{Widths}
use Rattle.pdl_vread_rules.specs.RuleQuestions.{Asked, first_wrong, both, Tells}
use Rattle.pdl_vread_rules.specs.Widths.{asked_write, asked_writes}
use Rattle.pdl_vread_rules.proofs.Passes.{front_tells}

-- where nothing of the first list is wrong, the first wrong of both is that of the second
pub rest_first : (xs ys : List Asked) → first_wrong xs ≡ None → first_wrong (xs ++ ys) ≡ first_wrong ys
rest_first [] ys h = refl
rest_first (a ∷ xs) ys h = go a.right (rest_first xs ys) h
  where
    go : (b : Bool) → (first_wrong xs ≡ None → first_wrong (xs ++ ys) ≡ first_wrong ys)
        → cond b (first_wrong xs) (Some a.line) ≡ None → cond b (first_wrong (xs ++ ys)) (Some a.line) ≡ first_wrong ys
    go true i k = i k
    go false i k = cc

module _ (t : Widths) where
  abbrev block : ArrayBlock → List ArrayWrite → List Asked
  block b ws = both (asked_write t) b.writes ws

  one_block : (bs : List ArrayBlock) (more : List (List ArrayWrite)) (i : ℕ) (b : ArrayBlock) (ws : List ArrayWrite) → i < length bs → i < length more
      → asked_writes t (drop i bs) (drop i more) ≡ block (get_or bs i b) (get_or more i ws) ++ asked_writes t (drop (i + 1) bs) (drop (i + 1) more)
  one_block bs more i b ws h k =
      ap (λ z. asked_writes t z (drop i more)) (drop_more bs i b h) ∙ ap (λ z. asked_writes t (get_or bs i b ∷ drop (i + 1) bs) z) (drop_more more i ws k)

  no_more : (bs : List ArrayBlock) → asked_writes t bs [] ≡ []
  no_more [] = refl
  no_more (b ∷ bs) = refl

  -- where the writes of the i-th block are right, the first wrong one is looked for from the next block on
  pub block_more : (bs : List ArrayBlock) (more : List (List ArrayWrite)) (i j : ℕ) (b : ArrayBlock) (ws : List ArrayWrite) (whole : Option ℕ)
      → i < length bs → i < length more → j ≡ i + 1
      → first_wrong (block (get_or bs i b) (get_or more i ws)) ≡ None
      → first_wrong (asked_writes t (drop i bs) (drop i more)) ≡ whole
      → first_wrong (asked_writes t (drop j bs) (drop j more)) ≡ whole
  block_more bs more i j b ws whole h k m r w =
      ap (λ n. first_wrong (asked_writes t (drop n bs) (drop n more))) m
      ∙ (sym (rest_first (block (get_or bs i b) (get_or more i ws)) (asked_writes t (drop (i + 1) bs) (drop (i + 1) more)) r)
      ∙ (ap first_wrong (sym (one_block bs more i b ws h k)) ∙ w))

  -- where a write of the i-th block is wrong, an answer that tells the first such tells the first of all
  pub block_stop : (bs : List ArrayBlock) (more : List (List ArrayWrite)) (i : ℕ) (b : ArrayBlock) (ws : List ArrayWrite) (whole : Option ℕ) (e : PassStop)
      → i < length bs → i < length more
      → Tells (first_wrong (block (get_or bs i b) (get_or more i ws))) (Err e)
      → first_wrong (asked_writes t (drop i bs) (drop i more)) ≡ whole → Tells whole (Err e)
  block_stop bs more i b ws whole e h k r w =
      subst (λ z. Tells z (Err e)) (sym (ap first_wrong (one_block bs more i b ws h k)) ∙ w)
      (front_tells (block (get_or bs i b) (get_or more i ws)) (asked_writes t (drop (i + 1) bs) (drop (i + 1) more)) e r)

  -- an answer that tells the line of the first wrong write of the i-th block tells the first wrong of all
  pub block_stop_at : (bs : List ArrayBlock) (more : List (List ArrayWrite)) (i : ℕ) (b : ArrayBlock) (ws : List ArrayWrite) (whole : Option ℕ) (e : PassStop)
      → i < length bs → i < length more
      → (told : Option ℕ) → told ≡ first_wrong (block (get_or bs i b) (get_or more i ws)) → Tells told (Err e)
      → first_wrong (asked_writes t (drop i bs) (drop i more)) ≡ whole → Tells whole (Err e)
  block_stop_at bs more i b ws whole e h k told m r w = block_stop bs more i b ws whole e h k (subst (λ z. Tells z (Err e)) m r) w

  -- past the last block nothing is wrong
  pub block_end : (bs : List ArrayBlock) (more : List (List ArrayWrite)) (i : ℕ) (whole : Option ℕ)
      → i ≡ min (length bs) (length more) → first_wrong (asked_writes t (drop i bs) (drop i more)) ≡ whole
      → whole ≡ None
  block_end bs more i whole e w = sym w ∙ ap first_wrong (go (cases_lt (length more) (length bs)))
    where
      go : (length more < length bs) ⊎ (length bs ≤ length more) → asked_writes t (drop i bs) (drop i more) ≡ []
      go (inl h) = ap (asked_writes t (drop i bs)) (drop_all i more (omega arith)) ∙ no_more (drop i bs)
      go (inr h) = ap (λ z. asked_writes t z (drop i more)) (drop_all i bs (omega arith))
