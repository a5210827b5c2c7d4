-- Words put into the front of a list, one by one.
use Rattle.std.proofs.Common.{◌≡◌, ◌∙◌, sym, ap, ap₂, ℕ, ◌+◌, ◌<◌, ◌≤◌, List, [], ◌∷◌, ◌++◌, length, get_or, take, drop, set, refl, arith}
use Rattle.std.proofs.lemmas.List.{take_all, take_more, take-append-drop, drop-set-lt, length-set}
use Rattle.std.proofs.lemmas.Grind.{take-set_at, drop_more_same}
use Rattle.pdl_netrun.specs.Held.{put_at}

-- the first k words of a list are put into the front of another
pub record IsFront (words first now : List ℕ) (k : ℕ) : Type 0 where
  pub within : k ≤ length words
  pub count : length now ≡ length first
  pub front : take k now ≡ take k words
  pub rest : drop k now ≡ drop k first

-- none is put in yet
pub front_none : (words first : List ℕ) → IsFront words first first 0
front_none words first = record { within = omega arith; count = refl; front = refl; rest = refl }

-- one word more
pub front_more : (words first now : List ℕ) (k x d : ℕ) → k < length words → k < length now → x ≡ get_or words k d
    → IsFront words first now k → IsFront words first (set now k x) (k + 1)
front_more words first now k x d h l e f = record {
  within = omega (arith, h);
  count = length-set now k x ∙ f.count;
  front = take-set_at now k (k + 1) x refl l ∙ ap₂ (λ xs y. xs ++ y ∷ []) f.front e ∙ sym (take_more words k d h);
  rest = drop-set-lt (k + 1) now k x (omega arith) ∙ drop_more_same now first k f.rest;
}

-- all are put in
pub front_all : (words first now : List ℕ) (k : ℕ) → length words ≤ k → IsFront words first now k → now ≡ put_at 0 first words
front_all words first now k h f =
    let w = f.within in
    let e : k ≡ 0 + length words = omega (arith, h, w) in
    sym (take-append-drop k now) ∙ ap₂ (λ xs ys. xs ++ ys) (f.front ∙ take_all k words h) (f.rest ∙ ap (λ n. drop n first) e)

pub ruleset fronts = (front_none, front_more, front_all)
