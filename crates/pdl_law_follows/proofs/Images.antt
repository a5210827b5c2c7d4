-- An image file has the same words for the memories of a netlist as for those of its pipe, in another order.
use Rattle.std.proofs.Common.{◌≡◌, inl, inr, ℕ, zero, suc, ◌+◌, ◌<◌, Bool, true, false, ◌||◌, List, [], ◌∷◌, ◌++◌, length, map, Option, Some, None, Ok, codes, bytes_eq, refl, sym, ap, ap₂, ◌∙◌, subst, arith}
use Rattle.std.specs.Prelude.{if◌then◌else◌, slice_index_or}
use Rattle.std.proofs.lemmas.List.{length-map, length-append}
use Rattle.std.proofs.lemmas.Slice.Eq.{bytes_eq-Decides}
use Rattle.pdl_word.proofs.Bytes.{bytes_swap}
use Rattle.pdl_kit.specs.declared.mem_info.MemInfo.{MemInfo}
use Rattle.pdl_semantics.specs.Tree as tree
use Rattle.pdl_semantics.specs.Tree.{Mem}
use Rattle.pdl_semantics.specs.Flat.{Pipe}
use Rattle.pdl_semantics.specs.Flat as flat_form
use Rattle.pdl_semantics.specs.Flatten.{flat, mems_of}
use Rattle.pdl_semantics.specs.Cycle.{for_mems}
use Rattle.pdl_source_paths.proofs.Memories.{mems_length}
use Rattle.pdl_rules.specs.Memories.{info_of, infos_of}
use Rattle.pdl_rules.specs.Typed.{is_memory, AreDistinct}
use Rattle.pdl_image.specs.Lines as image_lines
use Rattle.pdl_image.specs.Images.{mem_of, broken_by, broken_rule, at_line, first_wrong, words_of, after_header, contents, image, image_after, says_nothing, words_in}
use Rattle.pdl_image.specs.Images as images
use Rattle.pdl_image.specs.declared.file_error.FileError.{FileError}
use Rattle.pdl_law_parts.specs.Places.{net_place}
use Rattle.pdl_law_parts.specs.Runs.{commit_mem}
use Rattle.pdl_law_parts.proofs.WellFormedNames.{Among}
use Rattle.pdl_law_parts.proofs.LinesColumns.{declared_found}
use Rattle.pdl_law_sides.specs.WholeNetlist.{in_order}
use Rattle.pdl_law_follows.proofs.Places.{place_low}
use Rattle.pdl_law_follows.specs.Memories.{answers_late, delayed_of, comb_of, net_infos, taken_in_order}
use Rattle.pdl_law_follows.proofs.Memories.{none_named, as_many}
use Rattle.pdl_law_follows.proofs.HasMems.{told_here}
use Rattle.pdl_law_follows.proofs.LinesPorts.{found_right, none_found, net_found}

-- ---- memories by name

-- a memory is found by its name as by its commit port's
by_port : (infos : List MemInfo) (x : List ℕ) → mem_of infos x ≡ commit_mem infos (codes "c_" ++ x)
by_port [] x = refl
by_port (i ∷ is) x = ap₂ (λ b o. if b then Some i else o) (bytes_swap i.name x) (by_port is x)

-- the memory of a name, where there is one
named_among : (ms : List Mem) (x : List ℕ) → is_memory ms x ≡ true → (m : Mem) × Among m ms × (m.name.name ≡ x)
named_among [] x e = absurd (cc e)
named_among (m ∷ ms) x e = at (bytes_eq m.name.name x) refl e (named_among ms x)
  where
    at : (b : Bool) → bytes_eq m.name.name x ≡ b → (b || is_memory ms x) ≡ true
        → (is_memory ms x ≡ true → (k : Mem) × Among k ms × (k.name.name ≡ x))
        → (k : Mem) × Among k (m ∷ ms) × (k.name.name ≡ x)
    at true f h rest = (m, inl refl, (bytes_eq-Decides m.name.name x).0 f)
    at false f h rest = let r = rest h in (r.0, inr r.1, r.2)

same_found : (ms : List Mem) → AreDistinct ms → (x : List ℕ) → mem_of (net_infos ms) x ≡ mem_of (infos_of ms) x
same_found ms h x = by_port (net_infos ms) x ∙ at (is_memory ms x) refl ∙ sym (by_port (infos_of ms) x)
  where
    at : (b : Bool) → is_memory ms x ≡ b → commit_mem (net_infos ms) (codes "c_" ++ x) ≡ commit_mem (infos_of ms) (codes "c_" ++ x)
    at false e =
        found_right (map info_of (delayed_of ms)) (map info_of (comb_of ms)) (codes "c_" ++ x) (none_found (delayed_of ms) x (none_named answers_late ms x e))
        ∙ none_found (comb_of ms) x (none_named Rattle.pdl_rules.specs.Refusal.answers_at_once ms x e) ∙ sym (none_found ms x e)
    at true e =
        let m = named_among ms x e in
        subst (λ y. commit_mem (net_infos ms) (codes "c_" ++ y) ≡ commit_mem (infos_of ms) (codes "c_" ++ y)) m.2
        (net_found ms h m.0 m.1 ∙ sym (declared_found ms h m.0 m.1))

-- ---- lines

same_broken : (ranged : Bool) (ms : List Mem) → AreDistinct ms → (before : List (List ℕ)) (w : Option images.LineWords)
    → broken_by ranged (net_infos ms) before w ≡ broken_by ranged (infos_of ms) before w
same_broken ranged ms h before None = refl
same_broken ranged ms h before (Some w) = ap (images.broken_in ranged before w) (same_found ms h w.name)

same_rule : (ranged : Bool) (ms : List Mem) → AreDistinct ms → (before : List (List ℕ)) (line : List ℕ)
    → broken_rule ranged (net_infos ms) before line ≡ broken_rule ranged (infos_of ms) before line
unfolding broken_rule
same_rule ranged ms h before line = ap (λ o. if says_nothing line then None else o) (same_broken ranged ms h before (words_in ranged line))

same_wrong : (ranged : Bool) (ms : List Mem) → AreDistinct ms → (before : List (List ℕ)) (number : ℕ) (rest : List (List ℕ))
    → first_wrong ranged (net_infos ms) before number rest ≡ first_wrong ranged (infos_of ms) before number rest
unfolding first_wrong
same_wrong ranged ms h before number [] = refl
same_wrong ranged ms h before number (line ∷ more) =
    ap₂ (at_line number) (same_rule ranged ms h before line) (same_wrong ranged ms h (before ++ line ∷ []) (number + 1) more)

-- ---- words

for_mems_are : {X : Type 0} (g : ℕ → X) (k : ℕ) (xs : List flat_form.Mem) (ys : List X) (d : X)
    → length xs ≡ length ys → ((i : ℕ) → i < length xs → g (k + i) ≡ slice_index_or ys i d) → for_mems g k xs ≡ ys
for_mems_are g k [] [] d l h = refl
for_mems_are g k [] (y ∷ ys) d l h = absurd (cc l)
for_mems_are g k (x ∷ xs) [] d l h = absurd (cc l)
for_mems_are g k (x ∷ xs) (y ∷ ys) d l h =
    ap₂ (λ a b. a ∷ b) (ap g (let z : k ≡ k + 0 = omega arith in z) ∙ h 0 (omega arith))
    (for_mems_are g (suc k) xs ys d (omega (arith, l)) (λ i low. ap g (let z : suc k + i ≡ k + suc i = omega arith in z) ∙ h (suc i) (omega (arith, low))))

map_at : {X Y : Type 0} (f : X → Y) (xs : List X) (i : ℕ) (d : X) (e : Y)
    → i < length xs → slice_index_or (map f xs) i e ≡ f (slice_index_or xs i d)
map_at f [] i d e l = absurd (omega (arith, l))
map_at f (x ∷ xs) zero d e l = refl
map_at f (x ∷ xs) (suc i) d e l = map_at f xs i d e (omega (arith, l))

abbrev no_info : MemInfo
no_info = record { name = []; width = 0; depth = 0; delayed = false }

-- what is told of each memory of a netlist, in the pipe's order
pub told_in_order : (p : Pipe) (ms : List Mem)
    → p.mems ≡ mems_of ms → (f : MemInfo → List ℕ) → in_order p (map f (net_infos ms)) ≡ map f (infos_of ms)
told_in_order p ms same f =
    for_mems_are (λ m. slice_index_or (map f (net_infos ms)) (net_place p m) []) 0 p.mems (map f (infos_of ms)) []
    (let e = ap length same ∙ mems_length ms in let a = length-map (infos_of ms) f in let b = length-map ms info_of in omega (arith, e, a, b))
    (λ i l. ap (λ j. slice_index_or (map f (net_infos ms)) (net_place p j) []) (let z : 0 + i ≡ i = omega arith in z) ∙ at i l)
  where
    at : (i : ℕ) → i < length p.mems → slice_index_or (map f (net_infos ms)) (net_place p i) [] ≡ slice_index_or (map f (infos_of ms)) i []
    at i l =
        let here = ap length same ∙ mems_length ms in
        let place = place_low p i l in
        let count : length (net_infos ms) ≡ length ms =
        (let a = length-append (map info_of (delayed_of ms)) (map info_of (comb_of ms)) in
        let b = length-map (delayed_of ms) info_of in let c = length-map (comb_of ms) info_of in
        let d = as_many ms in omega (arith, a, b, c, d)) in
        let low : i < length (infos_of ms) = (let a = length-map ms info_of in omega (arith, l, here, a)) in
        map_at f (net_infos ms) (net_place p i) no_info [] (omega (arith, place, here, count))
        ∙ ap f (told_here ms p same i no_info l)
        ∙ sym (map_at f (infos_of ms) i no_info [] low)

-- ---- the whole

same_contents : (ranged : Bool) (p : tree.Pipe) (rest : List (List ℕ)) (o : Option FileError)
    → contents ranged (infos_of p.mems) rest o ≡ taken_in_order (flat p) (contents ranged (net_infos p.mems) rest o)
same_contents ranged p rest None = ap (λ words. Ok words) (sym (told_in_order (flat p) p.mems refl (words_of ranged rest)))
same_contents ranged p rest (Some refusal) = refl

same_after : (p : tree.Pipe) → AreDistinct p.mems → (o : Option (Bool × List (List ℕ)))
    → image_after (infos_of p.mems) o ≡ taken_in_order (flat p) (image_after (net_infos p.mems) o)
same_after p h None = refl
same_after p h (Some g) =
    ap (contents g.0 (infos_of p.mems) g.1) (sym (same_wrong g.0 p.mems h [] 2 g.1))
    ∙ same_contents g.0 p g.1 (first_wrong g.0 (net_infos p.mems) [] 2 g.1)

-- a file gives the memories of a pipe, in declared order, what it gives those of its netlist, or is refused by the same rule at the same line
pub same_image : (p : tree.Pipe) → AreDistinct p.mems → (text : List ℕ)
    → image (infos_of p.mems) text ≡ taken_in_order (flat p) (image (net_infos p.mems) text)
unfolding image
same_image p h text = same_after p h (after_header (image_lines.lines text))
