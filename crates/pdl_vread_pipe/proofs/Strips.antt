-- Names that begin with a prefix, and ports that begin with expected ones.
use Rattle.std.proofs.Common.{◌≡◌, ◌≢◌, ℕ, suc, ◌+◌, ◌-◌, ◌<◌, ◌≤◌, Bool, true, false, cond, if◌then◌else◌, eqb, List, [], ◌∷◌, ◌++◌, length, take, drop, get_or, flat_map, filter_map, Option, Some, None, refl, sym, ap, ◌∙◌, arith, MatchOption, nat_eq, bytes_eq}
use denote.Ref.{Bor}
use Rattle.std.specs.Option.{option_copied}
use Rattle.std.specs.List.{range_with_len}
use Rattle.std.specs.Cmp.Lexicographic.{pointwise}
use Rattle.std.proofs.lemmas.List.{drop_more, drop_all, map_more, append_cancel_left}
use Rattle.std.proofs.lemmas.Slice.Eq.{bytes_eq-Decides, strip_prefix_is}
use Rattle.std.proofs.lemmas.Bool.Decides.{same_from_decides, Decides-eqb}
use Rattle.std.specs.Option.{option_map}
use Rattle.std.proofs.lemmas.List.Elements.{filter_map-append}
use Rattle.pdl_net.specs.declared.Port.{Port}
use Rattle.pdl_net.specs.Pipe.{Head, PortMem, head_of, stage_ports, first_ports, second_ports, commit_ports}
use Rattle.pdl_vread_pipe.specs.ToldParts.{strip, names, widths, begins_second, second_after, seconds}
use Rattle.pdl_vread_pipe.specs.ExpectedPorts.{after, same, heads}

strip_of : (p x : List ℕ) → strip p (p ++ x) ≡ Some x
strip_of [] x = refl
strip_of (c ∷ cs) x = ap (λ b. cond b (strip cs (cs ++ x)) None) ((Decides-eqb c c).1 refl) ∙ strip_of cs x

strip_some : (p s x : List ℕ) → strip p s ≡ Some x → s ≡ p ++ x
strip_some [] s x e = cc
strip_some (c ∷ cs) [] x e = cc
strip_some (c ∷ cs) (d ∷ ds) x e = go (eqb c d) refl (strip_some cs ds x) e
  where
    go : (b : Bool) → eqb c d ≡ b → (strip cs ds ≡ Some x → ds ≡ cs ++ x) → cond b (strip cs ds) None ≡ Some x → d ∷ ds ≡ c ∷ (cs ++ x)
    go true h i e = let k = i e in let j : c ≡ d = (Decides-eqb c d).0 h in cc
    go false h i e = cc

strip_none : (p s : List ℕ) → ((rest : List ℕ) → s ≢ p ++ rest) → None ≡ strip p s
strip_none p s h = go (strip p s) refl
  where
    go : (o : Option (List ℕ)) → strip p s ≡ o → None ≡ o
    go None e = refl
    go (Some x) e = absurd (h x (strip_some p s x e))

stripped_as : (p s : List ℕ) (r : Option (Bor (List ℕ)))
    → MatchOption r ((rest : List ℕ) → s ≢ p ++ rest) (λ x. s ≡ p ++ x.now) → option_copied r ≡ strip p s
stripped_as p s None h = strip_none p s h
stripped_as p s (Some x) h = sym (ap (strip p) h ∙ strip_of p x.now)

-- what is left of a name after a prefix
pub stripped : (s p : List ℕ) (r : Option (Bor (List ℕ)))
    → MatchOption r (pointwise nat_eq (take (length p) s) p ≡ false)
    (λ x. (pointwise nat_eq (take (length p) s) p ≡ true) × (x.now ≡ drop (length p) s) × (length x.now + length p ≡ length s))
    → option_copied r ≡ strip p s
stripped s p r h = stripped_as p s r (strip_prefix_is Decides-eqb s p r h)

same_front : (p x y : List ℕ) → bytes_eq x y ≡ bytes_eq (p ++ x) (p ++ y)
same_front p x y =
    let a = bytes_eq-Decides x y in
    let b = bytes_eq-Decides (p ++ x) (p ++ y) in
    same_from_decides _ _ a (λ e. append_cancel_left p x y (b.0 e), λ e. b.1 (ap (λ z. p ++ z) e))

-- what is left of a name after a prefix is y just where the name is the prefix and y
pub named_some : (s p y x : List ℕ) → Some x ≡ strip p s → bytes_eq x y ≡ bytes_eq s (p ++ y)
named_some s p y x e = same_front p x y ∙ ap (λ z. bytes_eq z (p ++ y)) (sym (strip_some p s x (sym e)))

-- a name that doesn't begin with a prefix is none of that prefix and y
pub named_none : (s p y : List ℕ) → None ≡ strip p s → false ≡ bytes_eq s (p ++ y)
named_none s p y e = go (bytes_eq s (p ++ y)) refl
  where
    go : (b : Bool) → bytes_eq s (p ++ y) ≡ b → false ≡ b
    go false h = refl
    go true h = let i = (bytes_eq-Decides s (p ++ y)).0 h in let j = strip_of p y in let k = ap (strip p) i in cc

pub ruleset named = (named_some, named_none)

-- ---- ports

-- where ports begin with an expected one, the others that are expected are looked for after it
pub after_cons : (e : Head) (es hs ls : List Head) → Some ls ≡ after (e ∷ []) hs → after es ls ≡ after (e ∷ es) hs
after_cons e es [] ls h = cc
after_cons e es (x ∷ xs) ls h = go (same e x) h
  where
    go : (b : Bool) → Some ls ≡ cond b (Some xs) None → after es ls ≡ cond b (after es xs) None
    go true h = let i : ls ≡ xs = cc in ap (after es) i
    go false h = cc

-- ports that don't begin with an expected one don't begin with it and others
pub stop_cons : (e : Head) (es hs : List Head) → None ≡ after (e ∷ []) hs → None ≡ after (e ∷ es) hs
stop_cons e es [] h = refl
stop_cons e es (x ∷ xs) h = go (same e x) h
  where
    go : (b : Bool) → None ≡ cond b (Some xs) None → None ≡ cond b (after es xs) None
    go true h = cc
    go false h = refl

pub ruleset one_by_one = (after_cons, stop_cons)

-- what is left of ports after two lists of expected ones is left after both joined
pub after_both : (es fs hs ls : List Head) → Some ls ≡ after es hs → after fs ls ≡ after (es ++ fs) hs
after_both [] fs hs ls h = let i : ls ≡ hs = cc in ap (after fs) i
after_both (e ∷ es) fs [] ls h = cc
after_both (e ∷ es) fs (x ∷ xs) ls h = go (same e x) (after_both es fs xs ls) h
  where
    go : (b : Bool) → (Some ls ≡ after es xs → after fs ls ≡ after (es ++ fs) xs) → Some ls ≡ cond b (after es xs) None
        → after fs ls ≡ cond b (after (es ++ fs) xs) None
    go true i h = i h
    go false i h = cc

-- ports that don't begin with expected ones don't begin with these and more
pub after_stop : (es fs hs : List Head) → None ≡ after es hs → None ≡ after (es ++ fs) hs
after_stop [] fs hs h = cc
after_stop (e ∷ es) fs [] h = refl
after_stop (e ∷ es) fs (x ∷ xs) h = go (same e x) (after_stop es fs xs) h
  where
    go : (b : Bool) → (None ≡ after es xs → None ≡ after (es ++ fs) xs) → None ≡ cond b (after es xs) None → None ≡ cond b (after (es ++ fs) xs) None
    go true i h = i h
    go false i h = refl

module _ {A : Type 0} (f : A → List Head) where
  one_more : (xs : List A) (i : ℕ) (d : A) → i < length xs → flat_map f (drop i xs) ≡ f (get_or xs i d) ++ flat_map f (drop (i + 1) xs)
  one_more xs i d l = ap (flat_map f) (drop_more xs i d l)

  -- where ports begin with those of the i-th element, those of the later elements are looked for after them
  pub flat_more : (xs : List A) (i : ℕ) (d : A) (hs ls : List Head) (whole : Option (List Head)) → i < length xs
      → Some ls ≡ after (f (get_or xs i d)) hs → after (flat_map f (drop i xs)) hs ≡ whole
      → after (flat_map f (drop (i + 1) xs)) ls ≡ whole
  flat_more xs i d hs ls whole l e h =
      after_both (f (get_or xs i d)) (flat_map f (drop (i + 1) xs)) hs ls e ∙ (ap (λ z. after z hs) (sym (one_more xs i d l)) ∙ h)

  -- where ports don't begin with those of the i-th element, they don't begin with those of the elements from it on
  pub flat_stop : (xs : List A) (i : ℕ) (d : A) (hs : List Head) (whole : Option (List Head)) → i < length xs
      → None ≡ after (f (get_or xs i d)) hs → after (flat_map f (drop i xs)) hs ≡ whole → None ≡ whole
  flat_stop xs i d hs whole l e h = after_stop (f (get_or xs i d)) (flat_map f (drop (i + 1) xs)) hs e ∙ (ap (λ z. after z hs) (sym (one_more xs i d l)) ∙ h)

  -- past the last element all ports are left
  pub flat_end : (xs : List A) (i : ℕ) (hs : List Head) (whole : Option (List Head)) → length xs ≤ i
      → after (flat_map f (drop i xs)) hs ≡ whole → Some hs ≡ whole
  flat_end xs i hs whole l h = ap (λ z. after (flat_map f z) hs) (sym (drop_all i xs l)) ∙ h

-- ---- stages

range_more : (k n : ℕ) → k < n → range_with_len k (n - k) ≡ k ∷ range_with_len (k + 1) (n - (k + 1))
range_more k n h = let e : n - k ≡ suc (n - (k + 1)) = omega arith in ap (range_with_len k) e

stage_one : (k n : ℕ)
    → k < n
    → flat_map stage_ports (range_with_len k (n - k)) ≡ stage_ports k ++ flat_map stage_ports (range_with_len (k + 1) (n - (k + 1)))
stage_one k n h = ap (flat_map stage_ports) (range_more k n h)

-- after the ports of stage k, those of the later stages are expected
pub stage_more : (k n : ℕ) (hs ls : List Head) (whole : Option (List Head))
    → k < n → Some ls ≡ after (stage_ports k) hs → after (flat_map stage_ports (range_with_len k (n - k))) hs ≡ whole
    → after (flat_map stage_ports (range_with_len (k + 1) (n - (k + 1)))) ls ≡ whole
stage_more k n hs ls whole l e h =
    after_both (stage_ports k) (flat_map stage_ports (range_with_len (k + 1) (n - (k + 1)))) hs ls e ∙ (ap (λ z. after z hs) (sym (stage_one k n l)) ∙ h)

-- where the ports don't begin with those of stage k, they don't with those of the stages from it on
pub stage_stop : (k n : ℕ) (hs : List Head) (whole : Option (List Head))
    → k < n → None ≡ after (stage_ports k) hs → after (flat_map stage_ports (range_with_len k (n - k))) hs ≡ whole
    → None ≡ whole
stage_stop k n hs whole l e h =
    after_stop (stage_ports k) (flat_map stage_ports (range_with_len (k + 1) (n - (k + 1)))) hs e ∙ (ap (λ z. after z hs) (sym (stage_one k n l)) ∙ h)

pub ruleset all_of_them = (flat_more, flat_stop, flat_end)

-- ---- commits

-- after the ports of its first commit, those of its second are those that are left of all of a memory that may commit twice
pub commit_twice : (m : PortMem) (hs ls : List Head)
    → m.twice ≡ true → Some ls ≡ after (first_ports m) hs → after (second_ports m) ls ≡ after (commit_ports m) hs
commit_twice m hs ls t e =
    after_both (first_ports m) (second_ports m) hs ls e ∙ ap (λ b. after (first_ports m ++ (if b then second_ports m else [])) hs) (sym t)

-- any other memory has no more
pub commit_once : (m : PortMem) (hs ls : List Head)
    → m.twice ≡ false → Some ls ≡ after (first_ports m) hs → Some ls ≡ after (commit_ports m) hs
commit_once m hs ls t e = after_both (first_ports m) [] hs ls e ∙ ap (λ b. after (first_ports m ++ (if b then second_ports m else [])) hs) (sym t)

-- without the ports of its first commit there are not all of them
pub commit_stop : (m : PortMem) (hs : List Head) → None ≡ after (first_ports m) hs → None ≡ after (commit_ports m) hs
commit_stop m hs e = after_stop (first_ports m) (if m.twice then second_ports m else []) hs e

pub ruleset committing = (commit_twice, commit_once, commit_stop)

-- ---- what ports tell

-- with the i-th port the names after a prefix are those of the ports before it, and its own
pub names_more : (prefix : List ℕ) (ports : List Port) (i : ℕ) (d : Port)
    → i < length ports
    → names prefix (heads (take (i + 1) ports)) ≡ names prefix (heads (take i ports)) ++ names prefix (head_of (get_or ports i d) ∷ [])
names_more prefix ports i d h =
    let f : Head → Option (List ℕ) = λ x. strip prefix x.name in
    ap (filter_map f) (map_more head_of ports i d h) ∙ filter_map-append f (heads (take i ports)) (head_of (get_or ports i d) ∷ [])

-- with the i-th port the widths for a prefix are those of the ports before it, and its own
pub widths_more : (prefix : List ℕ) (ports : List Port) (i : ℕ) (d : Port)
    → i < length ports
    → widths prefix (heads (take (i + 1) ports)) ≡ widths prefix (heads (take i ports)) ++ widths prefix (head_of (get_or ports i d) ∷ [])
widths_more prefix ports i d h =
    let f : Head → Option ℕ = λ x. option_map (λ _. x.width) (strip prefix x.name) in
    ap (filter_map f) (map_more head_of ports i d h) ∙ filter_map-append f (heads (take i ports)) (head_of (get_or ports i d) ∷ [])

-- of fewer than three ports there is no third
pub third_missing : (ports : List Port) → length ports ≤ 2 → false ≡ begins_second (drop 2 (heads ports))
third_missing [] h = refl
third_missing (a ∷ []) h = refl
third_missing (a ∷ b ∷ []) h = refl
third_missing (a ∷ b ∷ c ∷ ports) h = absurd (omega (arith, h))

-- what the k-th port tells of a second commit, with what the later ones tell, is what the ports from it on tell
pub seconds_more : (ports : List Port) (k : ℕ) (d : Port)
    → k < length ports
    → seconds (heads (drop k ports)) ≡ second_after (head_of (get_or ports k d)) (heads (drop (k + 1) ports)) ++ seconds (heads (drop (k + 1) ports))
seconds_more ports k d h = ap (λ ps. seconds (heads ps)) (drop_more ports k d h)
