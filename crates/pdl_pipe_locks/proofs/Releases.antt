-- Which releases of a memory are made, by one stage after another from the last one on.
use Rattle.std.proofs.Common.{◌≡◌, ℕ, zero, suc, ◌+◌, ◌-◌, ◌<◌, ◌≤◌, ◌==◌, Bool, true, false, List, [], ◌∷◌, map, length, drop, get_or, refl, sym, ap, ap₂, ◌∙◌, subst, arith}
use Rattle.std.specs.Prelude.{if◌then◌else◌}
use Rattle.std.proofs.lemmas.List.{drop_more, drop_all}
use Rattle.pdl_net.specs.declared.Net.{Net}
use Rattle.pdl_net.specs.Circuit.{Circuit}
use Rattle.pdl_net.specs.Signal.{Signal, mux_signal}
use Rattle.pdl_net.specs.Meaning.{signal, Means}
use Rattle.pdl_net.specs.Growth.{Keeps, Extends}
use Rattle.pdl_net.proofs.KeptWidths.{width_keeps}
use Rattle.pdl_pipe_exprs.specs.declared.bits.Bits.{Bits}
use Rattle.pdl_pipe_exprs.specs.Conditions.{AreBits}
use Rattle.pdl_law_parts.specs.Walk.{Letting, one, zero_bit, both}
use Rattle.pdl_law_parts.specs.Views.{View}
use Rattle.pdl_law_parts.specs.Ports.{release_moves, second_moves}
use Rattle.pdl_pipe_walk.specs.declared.nets.LettingNet.{LettingNet}
use Rattle.pdl_pipe_walk.specs.Parts.{letting_in}
use Rattle.pdl_pipe_locks.specs.declared.deeds.StageDeeds.{StageDeeds}
use Rattle.pdl_pipe_locks.specs.declared.ports.ReleaseNets.{ReleaseNets}
use Rattle.pdl_pipe_locks.specs.Deeds.{views_in, moves_in}
use Rattle.pdl_pipe_locks.specs.Ports.{IsGivenLetting, IsGiven, ReleaseSignals, releases_signal, HaveReleases, AreReleases, second_with, releases_after, releases_of}
use Rattle.pdl_pipe_locks.proofs.PortLists.{lettings_same}
use Rattle.pdl_pipe_locks.proofs.PortStages.{each_at, view_is, moves_is, releases_step}
use Rattle.pdl_word.specs.Each.{Each}
use Rattle.pdl_pipe_locks.proofs.StageSteps.{one_further}

abbrev both_told : Signal → Signal → ReleaseSignals
both_told f g = record { first = f; second = g }

-- nets that are there tell what they mean
told_is : (c : Circuit) (x : ReleaseNets) (t : ReleaseSignals) → AreReleases c x t → releases_signal c x ≡ t
told_is c x t h = ap₂ both_told h.first.same h.second.same

lets_split : (twice : Bool) (m : ℕ) (f : Signal) (x : Letting) (xs : List Letting) (rest : ReleaseSignals)
    → releases_after twice m f (x ∷ xs) rest ≡ releases_after twice m f (x ∷ []) (releases_after twice m f xs rest)
lets_split true m f x xs rest = refl
lets_split false m f x xs rest = refl

-- ---- they are told by 1 bit each

-- 1 bit tells each
abbrev pub AreOneBit : ReleaseSignals → Type 0
AreOneBit t = (t.first.width ≡ 1) × (t.second.width ≡ 1)

first_one : (m : ℕ) (f : Signal) (xs : List Letting) (rest : Signal) → rest.width ≡ 1 → (release_moves m f xs rest).width ≡ 1
first_one m f [] rest w = w
first_one m f (x ∷ xs) rest w = at (x.mem == m) (first_one m f xs rest w)
  where
    at : (b : Bool) → (release_moves m f xs rest).width ≡ 1
        → (if b then mux_signal (both f x.on) one (release_moves m f xs rest) else release_moves m f xs rest).width ≡ 1
    at true h = refl
    at false h = h

second_one : (m : ℕ) (f : Signal) (xs : List Letting) (any rest : Signal) → any.width ≡ 1 → rest.width ≡ 1
    → (second_moves m f xs any rest).width ≡ 1
second_one m f [] any rest v w = w
second_one m f (x ∷ xs) any rest v w = at (x.mem == m) (first_one m f xs any v) (second_one m f xs any rest v w)
  where
    at : (b : Bool) → (release_moves m f xs any).width ≡ 1 → (second_moves m f xs any rest).width ≡ 1
        → (if b then mux_signal (both f x.on) (release_moves m f xs any) (second_moves m f xs any rest) else second_moves m f xs any rest).width ≡ 1
    at true h k = h
    at false h k = k

-- the releases of a stage, with those of the rest
pub lets_one : (twice : Bool) (m : ℕ) (f : Signal) (xs : List Letting) (rest : ReleaseSignals)
    → AreOneBit rest → AreOneBit (releases_after twice m f xs rest)
lets_one true m f xs rest w = (first_one m f xs rest.first w.0, second_one m f xs rest.first rest.second w.0 w.1)
lets_one false m f xs rest w = (first_one m f xs rest.first w.0, w.1)

none_one : (b : Bool) → AreOneBit (both_told zero_bit (if b then zero_bit else zero_bit))
none_one true = (refl, refl)
none_one false = (refl, refl)

-- the releases of n stages
pub released_one : (twice : Bool) (m : ℕ) (vs : ℕ → View) (moves : ℕ → Signal) (n k : ℕ) → AreOneBit (releases_of twice m vs moves n k)
released_one twice m vs moves zero k = none_one twice
released_one twice m vs moves (suc n) k =
    subst AreOneBit (sym (releases_step twice m vs moves n k))
    (lets_one twice m (moves k) (vs k).ended.lettings (releases_of twice m vs moves n (suc k)) (released_one twice m vs moves n (suc k)))

-- nets that tell this by 1 bit each are there with 1 bit
pub have_releases : (c : Circuit) (x : ReleaseNets) (t : ReleaseSignals) → AreReleases c x t → AreOneBit t → HaveReleases c x
have_releases c x t h w = record {
  first = record { there = h.first.there; width = ap (λ (f : Signal). f.width) h.first.same ∙ w.0 };
  second = record { there = h.second.there; width = ap (λ (f : Signal). f.width) h.second.same ∙ w.1 };
}

-- they stay there in a circuit that grew
pub releases_kept : (a b : Circuit) (x : ReleaseNets) → Keeps a b → HaveReleases a x → HaveReleases b x
releases_kept a b x k h = record { first = width_keeps a b x.first 1 k h.first; second = width_keeps a b x.second 1 k h.second }

-- ---- one release

-- nets that are there tell what they tell
pub told_same : (c : Circuit) (x : ReleaseNets) → HaveReleases c x → AreReleases c x (releases_signal c x)
told_same c x h = record { first = record { there = h.first.there; same = refl }; second = record { there = h.second.there; same = refl } }

-- a release of another memory tells nothing new
pub other_release : (twice : Bool) (m : ℕ) (f : Signal) (x : Letting) (rest : ReleaseSignals) → (x.mem == m) ≡ false
    → releases_after twice m f (x ∷ []) rest ≡ rest
other_release true m f x rest e =
    ap (λ (b : Bool). both_told (if b then mux_signal (both f x.on) one rest.first else rest.first)
    (if b then mux_signal (both f x.on) rest.first rest.second else rest.second)) e
other_release false m f x rest e = ap (λ (b : Bool). both_told (if b then mux_signal (both f x.on) one rest.first else rest.first) rest.second) e

-- a release of the memory is told beside the rest
pub own_release : (twice : Bool) (m : ℕ) (f : Signal) (x : Letting) (rest : ReleaseSignals) → (x.mem == m) ≡ true
    → releases_after twice m f (x ∷ []) rest ≡ record { first = mux_signal (both f x.on) one rest.first; second = second_with twice (both f x.on) rest }
own_release true m f x rest e =
    ap (λ (b : Bool). both_told (if b then mux_signal (both f x.on) one rest.first else rest.first)
    (if b then mux_signal (both f x.on) rest.first rest.second else rest.second)) e
own_release false m f x rest e = ap (λ (b : Bool). both_told (if b then mux_signal (both f x.on) one rest.first else rest.first) rest.second) e

-- a release that is made beside others: its condition in b, the first net in c, the second in d
pub with_release : (a b c d : Circuit) (bits : Bits) (twice : Bool) (on : Signal) (x : Net) (rest : ReleaseNets) (y z : Net)
    → AreBits a bits → HaveReleases a rest → Extends a b → Means b x on
    → Extends b c → Means c y (mux_signal (signal b x) (signal b bits.one) (signal b rest.first))
    → Extends c d → Means d z (second_with twice (signal c x) (releases_signal c rest))
    → AreReleases d (record { first = y; second = z })
    (record { first = mux_signal on one (signal a rest.first); second = second_with twice on (releases_signal a rest) })
with_release a b c d bits twice on x rest y z t h ab m bc n cd k =
    let one_is : signal b bits.one ≡ one = ab.kept bits.one t.one.there ∙ t.one.same in
    let first_is : signal b rest.first ≡ signal a rest.first = ab.kept rest.first h.first.there in
    let first_on : mux_signal (signal b x) (signal b bits.one) (signal b rest.first) ≡ mux_signal on one (signal a rest.first) =
    ap₂ (λ f g. mux_signal f g (signal b rest.first)) m.same one_is ∙ ap (mux_signal on one) first_is in
    let on_is : signal c x ≡ on = bc.kept x m.there ∙ m.same in
    let rest_is : releases_signal c rest ≡ releases_signal a rest =
    ap₂ both_told (bc.kept rest.first (ab.there rest.first h.first.there) ∙ first_is)
    (bc.kept rest.second (ab.there rest.second h.second.there) ∙ ab.kept rest.second h.second.there) in
    record {
      first = record { there = cd.there y n.there; same = cd.kept y n.there ∙ n.same ∙ first_on };
      second = record { there = k.there; same = k.same ∙ ap₂ (second_with twice) on_is rest_is };
    }

-- ---- the lettings of a stage

-- before the releases of a stage, the nets tell of the rest
pub lets_begin : (twice : Bool) (a : Circuit) (m : ℕ) (f : Signal) (xs : List LettingNet) (rest : ReleaseNets) → HaveReleases a rest
    → AreReleases a rest (releases_after twice m f (map (letting_in a) (drop (length xs - 0) xs)) (releases_signal a rest))
lets_begin twice a m f xs rest t =
    let none : releases_after twice m f (map (letting_in a) (drop (length xs - 0) xs)) (releases_signal a rest) ≡ releases_signal a rest =
    ap (λ (ys : List LettingNet). releases_after twice m f (map (letting_in a) ys) (releases_signal a rest)) (drop_all (length xs - 0) xs (omega arith))
    ∙ nothing twice in
    subst (AreReleases a rest) (sym none) (told_same a rest t)
  where
    nothing : (b : Bool) → releases_after b m f [] (releases_signal a rest) ≡ releases_signal a rest
    nothing true = refl
    nothing false = refl

-- past the releases of a stage, the nets tell of all of them, with the rest
pub lets_end : (twice : Bool) (a b : Circuit) (m : ℕ) (f : Signal) (xs : List LettingNet) (i : ℕ) (nets : ReleaseNets) (rest : ReleaseSignals)
    → length xs ≤ i → AreReleases b nets (releases_after twice m f (map (letting_in a) (drop (length xs - i) xs)) rest)
    → AreReleases b nets (releases_after twice m f (map (letting_in a) xs) rest)
lets_end twice a b m f xs i nets rest l h = let z : length xs - i ≡ 0 = omega (arith, l) in
    subst (λ k. AreReleases b nets (releases_after twice m f (map (letting_in a) (drop k xs)) rest)) z h

-- with one release more, the nets tell of the last i + 1 releases of a stage, with the rest
pub lets_more : (twice : Bool) (a b c : Circuit) (m : ℕ) (f g : Signal) (xs : List LettingNet) (i : ℕ) (x : LettingNet) (nets y : ReleaseNets)
    (rest : ReleaseSignals)
    → Keeps a b → i < length xs → x ≡ get_or xs (length xs - 1 - i) x → Each (IsGivenLetting a) xs → g ≡ f
    → AreReleases b nets (releases_after twice m f (map (letting_in a) (drop (length xs - i) xs)) rest)
    → AreReleases c y (releases_after twice m g (letting_in b x ∷ []) (releases_signal b nets))
    → AreReleases c y (releases_after twice m f (map (letting_in a) (drop (length xs - (i + 1)) xs)) rest)
lets_more twice a b c m f g xs i x nets y rest k l e given q h z =
    let n = length xs in
    let j = n - 1 - i in
    let low : j < n = omega (arith, l) in
    let it = each_at (IsGivenLetting a) xs j x low e given in
    let back = releases_after twice m f (map (letting_in a) (drop (j + 1) xs)) rest in
    let before : n - i ≡ j + 1 = omega (arith, l) in
    let now : j ≡ n - (i + 1) = omega (arith, l) in
    let more : releases_after twice m f (letting_in a x ∷ map (letting_in a) (drop (j + 1) xs)) rest
    ≡ releases_after twice m f (map (letting_in a) (drop j xs)) rest =
    ap (λ (w : LettingNet). releases_after twice m f (letting_in a w ∷ map (letting_in a) (drop (j + 1) xs)) rest) e
    ∙ sym (ap (λ (ys : List LettingNet). releases_after twice m f (map (letting_in a) ys) rest) (drop_more xs j x low)) in
    let letting : letting_in b x ≡ letting_in a x = ap (λ (u : Signal). record { mem = x.mem; on = u }) (k.kept x.on it.on.there) in
    let after : releases_signal b nets ≡ back =
    told_is b nets (releases_after twice m f (map (letting_in a) (drop (n - i) xs)) rest) h
    ∙ ap (λ i. releases_after twice m f (map (letting_in a) (drop i xs)) rest) before in
    let F = λ (u : Signal) (w : Letting) (v : ReleaseSignals). releases_after twice m u (w ∷ []) v in
    let same : releases_after twice m g (letting_in b x ∷ []) (releases_signal b nets) ≡ releases_after twice m f (letting_in a x ∷ []) back =
    ap (λ (u : Signal). F u (letting_in b x) (releases_signal b nets)) q ∙ ap₂ (F f) letting after in
    subst (AreReleases c y)
    (same ∙ sym (lets_split twice m f (letting_in a x) (map (letting_in a) (drop (j + 1) xs)) rest) ∙ more
    ∙ ap (λ i. releases_after twice m f (map (letting_in a) (drop i xs)) rest) now) z

-- ---- all stages

-- no stage releases
pub released_none : (twice : Bool) (c : Circuit) (m : ℕ) (vs : ℕ → View) (moves : ℕ → Signal) (k : ℕ) (x : ReleaseNets)
    → Means c x.first zero_bit → Means c x.second zero_bit → AreReleases c x (releases_of twice m vs moves 0 k)
released_none true c m vs moves k x f g = record { first = f; second = g }
released_none false c m vs moves k x f g = record { first = f; second = g }

released_next : (twice : Bool) (m : ℕ) (vs : ℕ → View) (moves : ℕ → Signal) (n i k : ℕ)
    → i < n → k ≡ n - 1 - i
    → releases_of twice m vs moves (i + 1) (n - (i + 1))
    ≡ releases_after twice m (moves k) (vs k).ended.lettings (releases_of twice m vs moves i (n - i))
released_next twice m vs moves n i k l e = let f = one_further (releases_of twice m vs moves) n i k l e in
    f.0 ∙ releases_step twice m vs moves i k ∙ ap (releases_after twice m (moves k) (vs k).ended.lettings) f.1

-- what is told of the releases of the last i + 1 stages, where it is known of the last i
pub released_more : (twice : Bool) (a b c : Circuit) (m : ℕ) (ds : List StageDeeds) (i : ℕ) (d : StageDeeds) (nets y : ReleaseNets) → Keeps a b
    → i < length ds → d ≡ get_or ds (length ds - 1 - i) d → Each (IsGiven a m) ds
    → AreReleases b nets (releases_of twice m (views_in a ds) (moves_in a ds) i (length ds - i))
    → AreReleases c y (releases_after twice m (signal b d.moves) (map (letting_in b) d.ended.now.lettings) (releases_signal b nets))
    → AreReleases c y (releases_of twice m (views_in a ds) (moves_in a ds) (i + 1) (length ds - (i + 1)))
released_more twice a b c m ds i d nets y k l e g h z =
    let n = length ds in
    let j = n - 1 - i in
    let low : j < n = omega (arith, l) in
    let given = each_at (IsGiven a m) ds j d low e g in
    let moves : signal b d.moves ≡ moves_in a ds j = k.kept d.moves given.moves.there ∙ sym (moves_is a ds j d low e) in
    let lettings : map (letting_in b) d.ended.now.lettings ≡ (views_in a ds j).ended.lettings =
    lettings_same a b k d.ended.now.lettings given.lettings ∙ sym (ap (λ (v : View). v.ended.lettings) (view_is a ds j d low e)) in
    let F = λ (u : Signal) (ws : List Letting) (v : ReleaseSignals). releases_after twice m u ws v in
    let told = told_is b nets (releases_of twice m (views_in a ds) (moves_in a ds) i (n - i)) h in
    let same : releases_after twice m (signal b d.moves) (map (letting_in b) d.ended.now.lettings) (releases_signal b nets)
    ≡ releases_after twice m (moves_in a ds j) (views_in a ds j).ended.lettings (releases_of twice m (views_in a ds) (moves_in a ds) i (n - i)) =
    ap (λ (u : Signal). F u (map (letting_in b) d.ended.now.lettings) (releases_signal b nets)) moves ∙ ap₂ (F (moves_in a ds j)) lettings told in
    subst (AreReleases c y) (same ∙ sym (released_next twice m (views_in a ds) (moves_in a ds) n i j l refl)) z
