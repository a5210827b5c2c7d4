-- The ports of a pipe tell its stages and memories.
use Rattle.std.proofs.Common.{◌≡◌, ℕ, suc, ◌<◌, Bool, true, false, cond, if◌then◌else◌, List, [], ◌∷◌, ◌++◌, length, drop, get_or, map, flat_map, filter_map, codes, decimal, Option, None, refl, ap, ◌∙◌, arith, append_assoc, append-nil, length-drop}
use Rattle.std.specs.Prelude.{slice_index_or}
use Rattle.std.specs.List.{range_with_len}
use Rattle.std.specs.Option.{is_some, option_map}
use Rattle.std.proofs.Math.Seq.{drop-cons}
use Rattle.std.proofs.lemmas.List.Concat.{flat_map_single}
use Rattle.std.proofs.lemmas.List.Elements.{filter_map-append}
use Rattle.std.proofs.lemmas.List.FromFn.{length-map-range_with_len}
use Rattle.pdl_word.specs.Each.{Each}
use Rattle.pdl_word.proofs.Each.{each_append}
use Rattle.pdl_net.specs.Pipe.{Head, PortMem, pipe_ports, reply_ports, stage_ports, first_ports, second_ports, commit_ports, request_ports}
use Rattle.pdl_vread_pipe.specs.declared.shape.Shape.{Shape}
use Rattle.pdl_vread_pipe.specs.ToldParts.{strip, names, widths, begins_second, seconds, mems_from, mems, told}
use Rattle.pdl_vread_pipe.specs.Tests.{last_ports}

module _ {X : Type 0} (F : Head → Option X) where
  of_flat : {A : Type 0} (g : A → List Head) (xs : List A) → filter_map F (flat_map g xs) ≡ flat_map (λ x. filter_map F (g x)) xs
  of_flat g [] = refl
  of_flat g (x ∷ xs) = filter_map-append F (g x) (flat_map g xs) ∙ ap (λ z. filter_map F (g x) ++ z) (of_flat g xs)

  -- part by part
  of_parts : (s : ℕ) (d l : List PortMem)
      → filter_map F (pipe_ports s d l)
      ≡ (((flat_map (λ m. filter_map F (reply_ports m)) d ++ flat_map (λ k. filter_map F (stage_ports k)) (range_with_len 0 s))
      ++ flat_map (λ m. filter_map F (commit_ports m)) l)
      ++ flat_map (λ m. filter_map F (request_ports m)) d)
      ++ filter_map F last_ports
  of_parts s d l =
      let r = range_with_len 0 s in
      let a = flat_map reply_ports d in
      let b = flat_map stage_ports r in
      let c = flat_map commit_ports l in
      let e = flat_map request_ports d in
      let z = filter_map F last_ports in
      let ga = flat_map (λ m. filter_map F (reply_ports m)) d in
      let gb = flat_map (λ k. filter_map F (stage_ports k)) r in
      let gc = flat_map (λ m. filter_map F (commit_ports m)) l in
      filter_map-append F (((a ++ b) ++ c) ++ e) last_ports
      ∙ (ap (λ t. t ++ z)
      (filter_map-append F ((a ++ b) ++ c) e
      ∙ ap (λ t. t ++ filter_map F e) (filter_map-append F (a ++ b) c ∙ ap (λ t. t ++ filter_map F c) (filter_map-append F a b)))
      ∙ (ap (λ t. (((t ++ filter_map F b) ++ filter_map F c) ++ filter_map F e) ++ z) (of_flat reply_ports d)
      ∙ (ap (λ t. (((ga ++ t) ++ filter_map F c) ++ filter_map F e) ++ z) (of_flat stage_ports r)
      ∙ (ap (λ t. (((ga ++ gb) ++ t) ++ filter_map F e) ++ z) (of_flat commit_ports l) ∙ ap (λ t. (((ga ++ gb) ++ gc) ++ t) ++ z) (of_flat request_ports d)))))

-- a part that gives nothing
nothing : {A B : Type 0} (xs : List A) → flat_map (λ (x : A). let none : List B = [] in none) xs ≡ []
nothing [] = refl
nothing (x ∷ xs) = nothing xs

module _ {X : Type 0} (a b c e t : List X) where
  first_alone : a ≡ t → b ≡ [] → c ≡ [] → e ≡ [] → (((a ++ b) ++ c) ++ e) ++ [] ≡ t
  first_alone ha hb hc he =
      ap (λ z. (((z ++ b) ++ c) ++ e) ++ []) ha
      ∙ (ap (λ z. (((t ++ z) ++ c) ++ e) ++ []) hb
      ∙ (ap (λ z. (((t ++ []) ++ z) ++ e) ++ []) hc
      ∙ (ap (λ z. (((t ++ []) ++ []) ++ z) ++ []) he
      ∙ (append-nil (((t ++ []) ++ []) ++ []) ∙ (append-nil ((t ++ []) ++ []) ∙ (append-nil (t ++ []) ∙ append-nil t))))))

  second_alone : a ≡ [] → b ≡ t → c ≡ [] → e ≡ [] → (((a ++ b) ++ c) ++ e) ++ [] ≡ t
  second_alone ha hb hc he =
      ap (λ z. (((z ++ b) ++ c) ++ e) ++ []) ha
      ∙ (ap (λ z. ((z ++ c) ++ e) ++ []) hb
      ∙ (ap (λ z. ((t ++ z) ++ e) ++ []) hc
      ∙ (ap (λ z. ((t ++ []) ++ z) ++ []) he ∙ (append-nil ((t ++ []) ++ []) ∙ (append-nil (t ++ []) ∙ append-nil t)))))

  third_alone : a ≡ [] → b ≡ [] → c ≡ t → e ≡ [] → (((a ++ b) ++ c) ++ e) ++ [] ≡ t
  third_alone ha hb hc he =
      ap (λ z. (((z ++ b) ++ c) ++ e) ++ []) ha
      ∙ (ap (λ z. ((z ++ c) ++ e) ++ []) hb ∙ (ap (λ z. (z ++ e) ++ []) hc ∙ (ap (λ z. (t ++ z) ++ []) he ∙ (append-nil (t ++ []) ∙ append-nil t))))

  fourth_alone : a ≡ [] → b ≡ [] → c ≡ [] → e ≡ t → (((a ++ b) ++ c) ++ e) ++ [] ≡ t
  fourth_alone ha hb hc he =
      ap (λ z. (((z ++ b) ++ c) ++ e) ++ []) ha ∙ (ap (λ z. ((z ++ c) ++ e) ++ []) hb ∙ (ap (λ z. (z ++ e) ++ []) hc ∙ (ap (λ z. z ++ []) he ∙ append-nil t)))

abbrev stage_range : ℕ → List ℕ
stage_range s = range_with_len 0 s

-- what commits give, where second ones give nothing
module _ {X : Type 0} (F : Head → Option X) (second : (m : PortMem) → filter_map F (second_ports m) ≡ []) where
  commit_gives : (m : PortMem) (y : List X) → filter_map F (first_ports m) ≡ y → filter_map F (commit_ports m) ≡ y
  commit_gives m y h =
      let P : Bool → Type 0 = λ b. filter_map F (first_ports m ++ (if b then second_ports m else [])) ≡ y in
      let both : P true =
      filter_map-append F (first_ports m) (second_ports m)
      ∙ (ap (λ z. z ++ filter_map F (second_ports m)) h ∙ (ap (λ z. y ++ z) (second m) ∙ append-nil y)) in
      elim m.twice as P [ true ↦ both | false ↦ h ]

  commits_give : (y : PortMem → List X) → ((m : PortMem) → filter_map F (first_ports m) ≡ y m) → (ls : List PortMem)
      → flat_map (λ m. filter_map F (commit_ports m)) ls ≡ flat_map y ls
  commits_give y h [] = refl
  commits_give y h (l ∷ ls) =
      ap (λ z. z ++ flat_map (λ m. filter_map F (commit_ports m)) ls) (commit_gives l (y l) (h l)) ∙ ap (λ z. y l ++ z) (commits_give y h ls)

  no_commits : ((m : PortMem) → filter_map F (first_ports m) ≡ []) → (ls : List PortMem) → flat_map (λ m. filter_map F (commit_ports m)) ls ≡ []
  no_commits h ls = commits_give (λ m. []) h ls ∙ nothing ls

-- names after a prefix, and widths
abbrev name_in : List ℕ → Head → Option (List ℕ)
name_in prefix h = strip prefix h.name

abbrev width_in : List ℕ → Head → Option ℕ
width_in prefix h = option_map (λ _. h.width) (strip prefix h.name)

delayed_names : (s : ℕ) (d l : List PortMem) → names (codes "p_") (pipe_ports s d l) ≡ map (λ m. m.name) d
delayed_names s d l =
    of_parts (name_in (codes "p_")) s d l
    ∙ first_alone _ _ _ _ _ (flat_map_single (λ (m : PortMem). m.name) d) (nothing (stage_range s))
    (no_commits (name_in (codes "p_")) (λ m. refl) (λ m. refl) l) (nothing d)

delayed_words : (s : ℕ) (d l : List PortMem) → widths (codes "pd_") (pipe_ports s d l) ≡ map (λ m. m.width) d
delayed_words s d l =
    of_parts (width_in (codes "pd_")) s d l
    ∙ first_alone _ _ _ _ _ (flat_map_single (λ (m : PortMem). m.width) d) (nothing (stage_range s))
    (no_commits (width_in (codes "pd_")) (λ m. refl) (λ m. refl) l) (nothing d)

delayed_bits : (s : ℕ) (d l : List PortMem) → widths (codes "qa_") (pipe_ports s d l) ≡ map (λ m. m.bits) d
delayed_bits s d l =
    of_parts (width_in (codes "qa_")) s d l
    ∙ fourth_alone _ _ _ _ _ (nothing d) (nothing (stage_range s))
    (no_commits (width_in (codes "qa_")) (λ m. refl) (λ m. refl) l) (flat_map_single (λ (m : PortMem). m.bits) d)

locked_names : (s : ℕ) (d l : List PortMem) → names (codes "c_") (pipe_ports s d l) ≡ map (λ m. m.name) l
locked_names s d l =
    of_parts (name_in (codes "c_")) s d l
    ∙ third_alone _ _ _ _ _ (nothing d) (nothing (stage_range s))
    (commits_give (name_in (codes "c_")) (λ m. refl) (λ m. m.name ∷ []) (λ m. refl) l ∙ flat_map_single (λ (m : PortMem). m.name) l) (nothing d)

locked_words : (s : ℕ) (d l : List PortMem) → widths (codes "cd_") (pipe_ports s d l) ≡ map (λ m. m.width) l
locked_words s d l =
    of_parts (width_in (codes "cd_")) s d l
    ∙ third_alone _ _ _ _ _ (nothing d) (nothing (stage_range s))
    (commits_give (width_in (codes "cd_")) (λ m. refl) (λ m. m.width ∷ []) (λ m. refl) l ∙ flat_map_single (λ (m : PortMem). m.width) l) (nothing d)

locked_bits : (s : ℕ) (d l : List PortMem) → widths (codes "ca_") (pipe_ports s d l) ≡ map (λ m. m.bits) l
locked_bits s d l =
    of_parts (width_in (codes "ca_")) s d l
    ∙ third_alone _ _ _ _ _ (nothing d) (nothing (stage_range s))
    (commits_give (width_in (codes "ca_")) (λ m. refl) (λ m. m.bits ∷ []) (λ m. refl) l ∙ flat_map_single (λ (m : PortMem). m.bits) l) (nothing d)

stage_names : (s : ℕ) (d l : List PortMem) → names (codes "v_") (pipe_ports s d l) ≡ map decimal (stage_range s)
stage_names s d l =
    of_parts (name_in (codes "v_")) s d l
    ∙ second_alone _ _ _ _ _ (nothing d) (flat_map_single decimal (stage_range s))
    (no_commits (name_in (codes "v_")) (λ m. refl) (λ m. refl) l) (nothing d)

-- ---- second commits

-- a port that begins no commit
abbrev IsOther : Head → Type 0
IsOther h = strip (codes "c_") h.name ≡ None

-- ports that begin no commit tell nothing of second ones
seconds_past : (xs ys : List Head) → Each IsOther xs → seconds (xs ++ ys) ≡ seconds ys
seconds_past [] ys f = refl
seconds_past (x ∷ xs) ys f =
    ap (λ o. cond (is_some o) (begins_second (drop 2 (xs ++ ys)) ∷ []) [] ++ seconds (xs ++ ys)) f.0 ∙ seconds_past xs ys f.1

replies_other : (ms : List PortMem) → Each IsOther (flat_map reply_ports ms)
replies_other [] = tt
replies_other (m ∷ ms) = (refl, (refl, replies_other ms))

stages_other : (ks : List ℕ) → Each IsOther (flat_map stage_ports ks)
stages_other [] = tt
stages_other (k ∷ ks) = (refl, (refl, stages_other ks))

requests_other : (ms : List PortMem) → Each IsOther (flat_map request_ports ms)
requests_other [] = tt
requests_other (m ∷ ms) = (refl, (refl, requests_other ms))

-- no second commit stands in front of commits, nor in front of the requests
commits_begin : (ls : List PortMem) (rest : List Head) → begins_second rest ≡ false → begins_second (flat_map commit_ports ls ++ rest) ≡ false
commits_begin [] rest h = h
commits_begin (l ∷ ls) rest h = refl

requests_begin : (ms : List PortMem) → begins_second (flat_map request_ports ms ++ last_ports) ≡ false
requests_begin [] = refl
requests_begin (m ∷ ms) = refl

-- the commits tell of each memory whether it has a second one
seconds_commits : (ls : List PortMem) (rest : List Head)
    → begins_second rest ≡ false → seconds (flat_map commit_ports ls ++ rest) ≡ map (λ m. m.twice) ls ++ seconds rest
seconds_commits [] rest h = refl
seconds_commits (l ∷ ls) rest h =
    let more = flat_map commit_ports ls ++ rest in
    let told = map (λ (m : PortMem). m.twice) ls ++ seconds rest in
    let P : Bool → Type 0 = λ b. seconds (((first_ports l ++ (if b then second_ports l else [])) ++ flat_map commit_ports ls) ++ rest) ≡ b ∷ told in
    let later : seconds more ≡ told = seconds_commits ls rest h in
    let both : P true = ap (λ z. true ∷ z) later in
    let one : P false = ap (λ b. b ∷ seconds more) (commits_begin ls rest h) ∙ ap (λ z. false ∷ z) later in
    elim l.twice as P [ true ↦ both | false ↦ one ]

locked_seconds : (s : ℕ) (d l : List PortMem) → seconds (pipe_ports s d l) ≡ map (λ m. m.twice) l
locked_seconds s d l =
    let front = flat_map reply_ports d ++ flat_map stage_ports (stage_range s) in
    let requests = flat_map request_ports d in
    let split : pipe_ports s d l ≡ front ++ (flat_map commit_ports l ++ (requests ++ last_ports)) = simp append_assoc in
    let none : seconds (requests ++ last_ports) ≡ [] = seconds_past requests last_ports (requests_other d) in
    ap seconds split
    ∙ (seconds_past front (flat_map commit_ports l ++ (requests ++ last_ports))
    (each_append IsOther (flat_map reply_ports d) (flat_map stage_ports (stage_range s)) (replies_other d) (stages_other (stage_range s)))
    ∙ (seconds_commits l (requests ++ last_ports) (requests_begin d)
    ∙ (ap (λ z. map (λ (m : PortMem). m.twice) l ++ z) none ∙ append-nil (map (λ (m : PortMem). m.twice) l))))

-- ---- memories

-- a memory of which the ports tell this
abbrev with_flag : PortMem → Bool → PortMem
with_flag m b = record { name = m.name; width = m.width; bits = m.bits; twice = b }

-- a delayed memory as its ports tell it, which don't say whether a cycle may commit two of its writes
abbrev pub once : PortMem → PortMem
once m = with_flag m false

at_front : {X : Type 0} (x : X) (k : ℕ) (ws : List X) (w : X) (rest : List X)
    → drop k ws ≡ w ∷ rest → (get_or ws k x ≡ w) × (drop (suc k) ws ≡ rest)
at_front x k ws w rest h =
    let n = ap length h in
    let l : k < length ws = omega (arith, length-drop k ws, n) in
    let e = drop-cons ws k x l in
    (cc, cc)

-- flags from the k-th on are those of these memories
abbrev AreFlags : (PortMem → Bool) → List Bool → ℕ → List PortMem → Type 0
AreFlags f ts k [] = Unit {0}
AreFlags f ts k (m ∷ ms) = (slice_index_or ts k false ≡ f m) × AreFlags f ts (suc k) ms

no_flags : (k : ℕ) (ms : List PortMem) → AreFlags (λ m. false) [] k ms
no_flags k [] = tt
no_flags k (m ∷ ms) = (refl, no_flags (suc k) ms)

own_flags : (ts : List Bool) (k : ℕ) (ms : List PortMem) → drop k ts ≡ map (λ m. m.twice) ms → AreFlags (λ m. m.twice) ts k ms
own_flags ts k [] h = tt
own_flags ts k (m ∷ ms) h =
    let a = at_front false k ts m.twice (map (λ (x : PortMem). x.twice) ms) h in
    (a.0, own_flags ts (suc k) ms a.1)

-- memories are found again by their names, words, addresses and flags
again : (f : PortMem → Bool) (ds : List PortMem) (k : ℕ) (ws bs : List ℕ) (ts : List Bool)
    → drop k ws ≡ map (λ m. m.width) ds → drop k bs ≡ map (λ m. m.bits) ds → AreFlags f ts k ds
    → mems_from k (map (λ m. m.name) ds) ws bs ts ≡ map (λ m. with_flag m (f m)) ds
again f [] k ws bs ts h g t = refl
again f (m ∷ ms) k ws bs ts h g t =
    let make : ℕ → ℕ → Bool → PortMem = λ w b x. record { name = m.name; width = w; bits = b; twice = x } in
    let a = at_front 0 k ws m.width (map (λ (x : PortMem). x.width) ms) h in
    let b = at_front 0 k bs m.bits (map (λ (x : PortMem). x.bits) ms) g in
    let flag = slice_index_or ts k false in
    let rest = mems_from (suc k) (map (λ (x : PortMem). x.name) ms) ws bs ts in
    ap (λ w. make w (get_or bs k 0) flag ∷ rest) a.0
    ∙ (ap (λ z. make m.width z flag ∷ rest) b.0
    ∙ (ap (λ z. make m.width m.bits z ∷ rest) t.0
    ∙ ap (λ z. with_flag m (f m) ∷ z) (again f ms (suc k) ws bs ts a.1 b.1 t.1)))

-- each with its own flag
own : (ms : List PortMem) → map (λ m. with_flag m m.twice) ms ≡ ms
own [] = refl
own (m ∷ ms) = ap (λ z. m ∷ z) (own ms)

delayed_told : (s : ℕ) (d l : List PortMem) → mems (codes "p_") (codes "pd_") (codes "qa_") [] (pipe_ports s d l) ≡ map once d
delayed_told s d l =
    let hs = pipe_ports s d l in
    ap (λ z. mems_from 0 z (widths (codes "pd_") hs) (widths (codes "qa_") hs) []) (delayed_names s d l)
    ∙ again (λ m. false) d 0 (widths (codes "pd_") hs) (widths (codes "qa_") hs) [] (delayed_words s d l) (delayed_bits s d l) (no_flags 0 d)

locked_told : (s : ℕ) (d l : List PortMem)
    → mems (codes "c_") (codes "cd_") (codes "ca_") (seconds (pipe_ports s d l)) (pipe_ports s d l) ≡ l
locked_told s d l =
    let hs = pipe_ports s d l in
    let ts = seconds hs in
    ap (λ z. mems_from 0 z (widths (codes "cd_") hs) (widths (codes "ca_") hs) ts) (locked_names s d l)
    ∙ (again (λ m. m.twice) l 0 (widths (codes "cd_") hs) (widths (codes "ca_") hs) ts (locked_words s d l) (locked_bits s d l)
    (own_flags ts 0 l (locked_seconds s d l)) ∙ own l)

-- the ports of a pipe tell its stages and memories, but for what they don't say of the delayed ones
pub told_of : (s : ℕ) (d l : List PortMem) → told (pipe_ports s d l) ≡ record { stages = s; delayed = map once d; locked = l }
told_of s d l =
    let make : ℕ → List PortMem → List PortMem → Shape = λ x y z. record { stages = x; delayed = y; locked = z } in
    let hs = pipe_ports s d l in
    let n : length (names (codes "v_") hs) ≡ s = ap length (stage_names s d l) ∙ length-map-range_with_len decimal 0 s in
    let locked = mems (codes "c_") (codes "cd_") (codes "ca_") (seconds hs) hs in
    ap (λ x. make x (mems (codes "p_") (codes "pd_") (codes "qa_") [] hs) locked) n
    ∙ (ap (λ y. make s y locked) (delayed_told s d l) ∙ ap (λ z. make s (map once d) z) (locked_told s d l))
