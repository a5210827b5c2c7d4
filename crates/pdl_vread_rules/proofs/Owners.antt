-- Blocks of arrays, one after another, after blocks of other arrays.
use Rattle.std.proofs.Common.{◌≡◌, ◌⊎◌, inl, inr, ℕ, ◌+◌, ◌<◌, ◌≤◌, ◌==◌, Bool, true, false, not, cond, min, List, [], ◌∷◌, ◌++◌, length, drop, get_or, Option, Some, None, Err, refl, sym, ap, ◌∙◌, subst, arith}
use Rattle.std.specs.List.{list_any}
use Rattle.std.proofs.lemmas.List.{drop_all}
use Rattle.std.proofs.lemmas.Bool.{cases_lt}
use Rattle.pdl_vread_text.specs.declared.file.WriteDecl.{WriteDecl}
use Rattle.pdl_vread_text.specs.declared.file.ArrayBlock.{ArrayBlock}
use Rattle.pdl_vread_nets.specs.declared.wiring.ArrayWrite.{ArrayWrite}
use Rattle.pdl_vread_nets.specs.declared.passes.PassStop.{PassStop}
use Rattle.pdl_vread_rules.specs.RuleQuestions.{Asked, first_wrong, both, Tells}
use Rattle.pdl_vread_rules.specs.Once.{owner, write_once, blocks_once}
use Rattle.pdl_vread_rules.proofs.Passes.{front_tells}
use Rattle.pdl_vread_rules.proofs.Blocks.{rest_first}
use Rattle.pdl_word.proofs.Lists.{drop_next}

-- the array of a block is one of these
abbrev pub has_owner : List ℕ → List ArrayWrite → Bool
has_owner before ws = list_any (λ m. owner ws == m) before

-- what is asked of the writes of a block
abbrev pub inside : ArrayBlock → List ArrayWrite → List Asked
inside b ws = both (write_once (owner ws)) b.writes ws

-- a block whose array is new to a set of arrays
pub is_other : (before : List ℕ) (ws : List ArrayWrite) (m : ℕ) (b : Bool)
    → m ≡ owner ws → b ≡ true → b ≡ not (list_any (λ k. m == k) before) → has_owner before ws ≡ false
is_other before ws m b e t h = go (has_owner before ws) (sym t ∙ (h ∙ ap (λ z. not (list_any (λ k. z == k) before)) e))
  where
    go : (r : Bool) → true ≡ not r → r ≡ false
    go true k = cc
    go false k = refl

-- a block of array m that isn't the first of m has its array among those before
pub is_second : (before : List ℕ) (ws : List ArrayWrite) (m : ℕ) (b : Bool)
    → m ≡ owner ws → b ≡ false → b ≡ not (list_any (λ k. m == k) before) → has_owner before ws ≡ true
is_second before ws m b e t h = go (has_owner before ws) (sym t ∙ (h ∙ ap (λ z. not (list_any (λ k. z == k) before)) e))
  where
    go : (r : Bool) → false ≡ not r → r ≡ true
    go true k = refl
    go false k = cc

-- the array of a block that is the first of it goes last, after those of the blocks before
pub added : (before after : List ℕ) (ws : List ArrayWrite) (m : ℕ)
    → m ≡ owner ws → has_owner before ws ≡ false
    → after ≡ cond (list_any (λ k. m == k) before) before (before ++ m ∷ []) → after ≡ before ++ owner ws ∷ []
added before after ws m e r h =
    h ∙ (ap (λ z. cond (list_any (λ k. z == k) before) before (before ++ z ∷ [])) e ∙ ap (λ b. cond b before (before ++ owner ws ∷ [])) r)

-- what is wrong among a block's writes to m is what is wrong inside the block, where m is its array
pub same_inside : (b : ArrayBlock) (ws : List ArrayWrite) (m : ℕ) (xs : List WriteDecl) (ys : List ArrayWrite)
    → m ≡ owner ws → xs ≡ b.writes → ys ≡ ws → first_wrong (both (write_once m) xs ys) ≡ first_wrong (inside b ws)
same_inside b ws m xs ys e f g =
    ap (λ z. first_wrong (both (write_once z) xs ys)) e
    ∙ (ap (λ z. first_wrong (both (write_once (owner ws)) z ys)) f ∙ ap (λ z. first_wrong (both (write_once (owner ws)) b.writes z)) g)

module _ (bs : List ArrayBlock) (more : List (List ArrayWrite)) (i : ℕ) (b : ArrayBlock) (ws : List ArrayWrite) (before : List ℕ) (whole : Option ℕ)
    (h : i < length bs) (k : i < length more) (is : b ≡ get_or bs i b) (are : ws ≡ get_or more i ws)
    (w : first_wrong (blocks_once before (drop i bs) (drop i more)) ≡ whole) where
  one_block : whole
      ≡ cond (not (has_owner before ws))
      (first_wrong (inside b ws ++ blocks_once (before ++ owner ws ∷ []) (drop (i + 1) bs) (drop (i + 1) more)))
      (Some b.line)
  one_block =
      sym w
      ∙ (ap (λ z. first_wrong (blocks_once before z (drop i more))) (drop_next bs i b h is)
      ∙ ap (λ z. first_wrong (blocks_once before (b ∷ drop (i + 1) bs) z)) (drop_next more i ws k are))

  -- where an earlier block is of the same array, the first wrong line is this block's
  pub second_block : has_owner before ws ≡ true → whole ≡ Some b.line
  second_block r =
      one_block
      ∙ ap (λ z. cond (not z) (first_wrong (inside b ws ++ blocks_once (before ++ owner ws ∷ []) (drop (i + 1) bs) (drop (i + 1) more))) (Some b.line)) r

  first_block : has_owner before ws ≡ false → whole ≡ first_wrong (inside b ws ++ blocks_once (before ++ owner ws ∷ []) (drop (i + 1) bs) (drop (i + 1) more))
  first_block r =
      one_block
      ∙ ap (λ z. cond (not z) (first_wrong (inside b ws ++ blocks_once (before ++ owner ws ∷ []) (drop (i + 1) bs) (drop (i + 1) more))) (Some b.line)) r

  -- where no earlier block is of its array and its writes are right, what is wrong is looked for after this block
  pub blocks_more : (j : ℕ) (after : List ℕ) → j ≡ i + 1 → after ≡ before ++ owner ws ∷ [] → has_owner before ws ≡ false
      → first_wrong (inside b ws) ≡ None → first_wrong (blocks_once after (drop j bs) (drop j more)) ≡ whole
  blocks_more j after m a r n =
      ap (λ z. first_wrong (blocks_once z (drop j bs) (drop j more))) a
      ∙ (ap (λ z. first_wrong (blocks_once (before ++ owner ws ∷ []) (drop z bs) (drop z more))) m
      ∙ (sym (rest_first (inside b ws) (blocks_once (before ++ owner ws ∷ []) (drop (i + 1) bs) (drop (i + 1) more)) n) ∙ sym (first_block r)))

  -- where no earlier block is of its array but one of its writes is wrong, the first such is the first wrong of all
  pub blocks_stop : (told : Option ℕ) (e : PassStop) → has_owner before ws ≡ false → told ≡ first_wrong (inside b ws) → Tells told (Err e) → Tells whole (Err e)
  blocks_stop told e r m t =
      subst (λ z. Tells z (Err e)) (sym (first_block r))
      (front_tells (inside b ws) (blocks_once (before ++ owner ws ∷ []) (drop (i + 1) bs) (drop (i + 1) more)) e (subst (λ z. Tells z (Err e)) m t))

no_more : (before : List ℕ) (bs : List ArrayBlock) → blocks_once before bs [] ≡ []
no_more before [] = refl
no_more before (b ∷ bs) = refl

-- past the last block of arrays nothing is wrong
pub blocks_end : (bs : List ArrayBlock) (more : List (List ArrayWrite)) (i : ℕ) (before : List ℕ) (whole : Option ℕ)
    → i ≡ min (length bs) (length more) → first_wrong (blocks_once before (drop i bs) (drop i more)) ≡ whole
    → whole ≡ None
blocks_end bs more i before whole e w = sym w ∙ ap first_wrong (go (cases_lt (length more) (length bs)))
  where
    go : (length more < length bs) ⊎ (length bs ≤ length more) → blocks_once before (drop i bs) (drop i more) ≡ []
    go (inl h) = ap (blocks_once before (drop i bs)) (drop_all i more (omega arith)) ∙ no_more before (drop i bs)
    go (inr h) = ap (λ z. blocks_once before z (drop i more)) (drop_all i bs (omega arith))
