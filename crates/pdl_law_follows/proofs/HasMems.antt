-- A netlist that is made of a pipe has the pipe's memories, each at its place.
use Rattle.std.proofs.Common.{◌≡◌, ℕ, suc, ◌+◌, ◌<◌, Bool, true, false, List, [], ◌∷◌, ◌++◌, length, map, refl, sym, ap, ◌∙◌, arith}
use Rattle.std.specs.Prelude.{slice_index_or, take, count_by, filter, if◌then◌else◌}
use Rattle.std.proofs.lemmas.List.{length-map, length-append, get_or_append_left}
use Rattle.std.proofs.lemmas.List.Elements.{filter-append}
use Rattle.pdl_kit.specs.declared.mem_info.MemInfo.{MemInfo}
use Rattle.pdl_semantics.specs.Tree.{Mem}
use Rattle.pdl_semantics.specs.Flat.{Pipe, is_delayed}
use Rattle.pdl_semantics.specs.Flatten.{mems_of}
use Rattle.pdl_semantics.specs.Stages.{mem_at, plain_mem}
use Rattle.pdl_source_paths.proofs.Memories.{mems_length}
use Rattle.pdl_rules.specs.Memories.{info_of}
use Rattle.pdl_rules.specs.Refusal.{answers_at_once}
use Rattle.pdl_net.specs.declared.Netlist.{Netlist}
use Rattle.pdl_law_parts.specs.Walk.{Locks}
use Rattle.pdl_law_parts.specs.Places.{delayed_count, comb_place, net_place}
use Rattle.pdl_law_parts.specs.DeclaredMems.{mem_names}
use Rattle.pdl_law_sides.specs.WholeNetlist.{names_delayed, HasWholeMems}
use Rattle.pdl_law_follows.proofs.Places as places
use Rattle.pdl_law_follows.proofs.Places.{fewer_before, place_delayed, place_comb}
use Rattle.pdl_law_follows.specs.Memories.{answers_late, delayed_of, comb_of, net_infos}
use Rattle.pdl_law_follows.proofs.Memories.{some_count, some_at, told_at, told_delayed, all_told, none_told, names_told, as_many}

-- an element after others
get_or_after : {X : Type 0} (xs ys : List X) (k : ℕ) (d : X) → slice_index_or (xs ++ ys) (length xs + k) d ≡ slice_index_or ys k d
get_or_after [] ys k d = ap (λ i. slice_index_or ys i d) (let z : 0 + k ≡ k = omega arith in z)
get_or_after (x ∷ xs) ys k d =
    ap (λ i. slice_index_or (x ∷ (xs ++ ys)) i d) (let z : suc (length xs) + k ≡ suc (length xs + k) = omega arith in z) ∙ get_or_after xs ys k d

-- the memory of a number stands at its place
module _ (ms : List Mem) (p : Pipe) (same : p.mems ≡ mems_of ms) where
  comb_count : length (delayed_of ms) ≡ delayed_count p
  comb_count = some_count answers_late places.answers_late (λ m. refl) ms ∙ ap (count_by places.answers_late) (sym same)

  low_here : (m : ℕ) → m < length p.mems → m < length ms
  low_here m l = let e = ap length same ∙ mems_length ms in omega (arith, l, e)

  -- at the place of memory m the netlist's memories have what is told of memory m
  pub told_here : (m : ℕ) (d : MemInfo) → m < length p.mems → slice_index_or (net_infos ms) (net_place p m) d ≡ slice_index_or (map info_of ms) m d
  told_here m d l = at (is_delayed (mem_at p m).kind) refl
    where
      delayed_low : is_delayed (mem_at p m).kind ≡ true → count_by places.answers_late (take m p.mems) < length (map info_of (delayed_of ms))
      delayed_low e =
          let h = fewer_before places.answers_late p.mems m l e in
          let count = comb_count in
          let many = length-map (delayed_of ms) info_of in
          omega (arith, h, count, many)

      at : (b : Bool) → is_delayed (mem_at p m).kind ≡ b → slice_index_or (net_infos ms) (net_place p m) d ≡ slice_index_or (map info_of ms) m d
      at true e =
          ap (λ k. slice_index_or (net_infos ms) k d) (place_delayed p m e)
          ∙ get_or_append_left (map info_of (delayed_of ms)) (map info_of (comb_of ms)) d (count_by places.answers_late (take m p.mems)) (delayed_low e)
          ∙ ap (λ ys. slice_index_or (map info_of (delayed_of ms)) (count_by places.answers_late (take m ys)) d) same
          ∙ some_at answers_late places.answers_late (λ x. refl) ms m d (low_here m l)
          (ap (λ ys. is_delayed (slice_index_or ys m plain_mem).kind) (sym same) ∙ e)
      at false e =
          ap (λ k. slice_index_or (net_infos ms) k d)
          (place_comb p m e ∙ ap (λ k. k + comb_place p m) (sym comb_count ∙ sym (length-map (delayed_of ms) info_of)))
          ∙ get_or_after (map info_of (delayed_of ms)) (map info_of (comb_of ms)) (comb_place p m) d
          ∙ ap (λ ys. slice_index_or (map info_of (comb_of ms)) (count_by places.answers_at_once (take m ys)) d) same
          ∙ some_at answers_at_once places.answers_at_once (λ x. by (is_delayed x.kind)) ms m d (low_here m l)
          (ap (λ ys. if is_delayed (slice_index_or ys m plain_mem).kind then false else true) (sym same) ∙ ap (λ b. if b then false else true) e)
        where
          by : (b : Bool) → (if b then false else true) ≡ Rattle.std.proofs.Common.not b
          by true = refl
          by false = refl

-- a netlist with a pipe's memories has each at its place, where the arrays are in the memories' order
pub has_mems : (p : Pipe) (ms : List Mem)
    → p.mems ≡ mems_of ms → (ls : Locks) (n : Netlist)
    → ((m : ℕ) → m < length p.mems → is_delayed (mem_at p m).kind ≡ false → ls.array m ≡ comb_place p m) → n.mems ≡ net_infos ms
    → HasWholeMems p (mem_names ms) ls n
has_mems p ms same ls n in_order mems = record {
  named =
      ap (λ l. map (λ (i : MemInfo). i.name) (filter told_delayed l)) mems
      ∙ ap (map (λ (i : MemInfo). i.name))
      (filter-append told_delayed (map info_of (delayed_of ms)) (map info_of (comb_of ms))
      ∙ ap (λ l. filter told_delayed (map info_of (delayed_of ms)) ++ l) (none_told ms)
      ∙ Rattle.std.proofs.Common.append-nil _ ∙ all_told ms)
      ∙ names_told (mem_names ms) 0 ms (λ i l. ap (mem_names ms) (let z : 0 + i ≡ i = omega arith in z))
      ∙ ap (names_delayed (mem_names ms) 0) (sym same);
  in_order = in_order;
  count =
      let all = ap length mems ∙ length-append (map info_of (delayed_of ms)) (map info_of (comb_of ms)) in
      let delayed = length-map (delayed_of ms) info_of in
      let comb = length-map (comb_of ms) info_of in
      let both = as_many ms in
      let here = ap length same ∙ mems_length ms in
      omega (arith, all, delayed, comb, both, here);
  depth =
      λ m d l. ap (λ (i : MemInfo). i.depth) (place m d l) ∙ (told_at ms m d (low_here ms p same m l)).0
      ∙ ap (λ ys. (slice_index_or ys m plain_mem).depth) (sym same);
  width =
      λ m d l. ap (λ (i : MemInfo). i.width) (place m d l) ∙ (told_at ms m d (low_here ms p same m l)).1
      ∙ ap (λ ys. (slice_index_or ys m plain_mem).width) (sym same);
  delayed =
      λ m d l. ap (λ (i : MemInfo). i.delayed) (place m d l) ∙ (told_at ms m d (low_here ms p same m l)).2
      ∙ ap (λ ys. is_delayed (slice_index_or ys m plain_mem).kind) (sym same);
}
  where
    place : (m : ℕ) (d : MemInfo) → m < length p.mems → slice_index_or n.mems (net_place p m) d ≡ slice_index_or (map info_of ms) m d
    place m d l = ap (λ ys. slice_index_or ys (net_place p m) d) mems ∙ told_here ms p same m d l
