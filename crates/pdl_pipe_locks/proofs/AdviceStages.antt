-- What the stages write by advice, one write after another and one stage after another, the last stage first.
use Rattle.std.proofs.Common.{◌≡◌, ℕ, ◌+◌, ◌-◌, ◌<◌, ◌≤◌, List, [], ◌∷◌, ◌++◌, map, length, take, get_or, refl, sym, ap, ap₂, ◌∙◌, arith}
use Rattle.std.proofs.lemmas.List.{map-append, take_all, take_more}
use Rattle.std.specs.Prelude.{Option}
use Rattle.pdl_word.specs.Each.{Each}
use Rattle.pdl_semantics.specs.Flat.{Pipe}
use Rattle.pdl_net.specs.declared.Net.{Net}
use Rattle.pdl_net.specs.Circuit.{Circuit}
use Rattle.pdl_net.specs.Signal.{Signal}
use Rattle.pdl_net.specs.Meaning.{WriteSignal, IsThere, signal}
use Rattle.pdl_net.specs.HasWidth.{HasWidth}
use Rattle.pdl_law_parts.specs.Walk.{Advising}
use Rattle.pdl_law_parts.specs.Views.{View}
use Rattle.pdl_law_parts.specs.Ports.{advises_to, all_advises}
use Rattle.pdl_pipe_walk.specs.declared.nets.AdvisingNet.{AdvisingNet}
use Rattle.pdl_pipe_walk.specs.declared.locks.MemLock.{MemLock}
use Rattle.pdl_pipe_walk.specs.Parts.{advising_in}
use Rattle.pdl_pipe_walk.specs.Sized.{IsSizedAdvising}
use Rattle.pdl_pipe_walk.specs.Locked.{Members}
use Rattle.pdl_pipe_locks.specs.declared.deeds.StageDeeds.{StageDeeds}
use Rattle.pdl_pipe_locks.specs.Deeds.{views_in, moves_in, IsDeed}
use Rattle.pdl_pipe_locks.specs.Advised.{IsGivenAdvising, ExtendsAdvice}
use Rattle.pdl_pipe_locks.proofs.AdviceGrowth.{advising_same, advises_same, advice_then, advice_as, advises_snoc, advises_next}
use Rattle.pdl_pipe_locks.proofs.PortStages.{view_is, moves_is}

-- ---- the nets are there

advises_given : (c : Circuit) (p : Pipe) (xs : List AdvisingNet)
    → Each (λ (x : AdvisingNet). IsThere c x.on × IsThere c x.addr × IsThere c x.value) xs
    → Each (IsSizedAdvising p) (map (advising_in c) xs) → Each (IsGivenAdvising c p) xs
advises_given c p [] t s = tt
advises_given c p (x ∷ xs) t s = (
  record {
    low = s.0.low;
    unlocked = s.0.unlocked;
    on = record { there = t.0.0; width = s.0.on };
    addr = t.0.1;
    reach = s.0.reach;
    value = record { there = t.0.2; width = s.0.value };
  },
  advises_given c p xs t.1 s.1,
)

-- what one stage writes by advice is there, and so is the net that says whether its thread moves
pub record IsGivenStage (c : Circuit) (p : Pipe) (d : StageDeeds) : Type 0 where
  pub moves : HasWidth c d.moves 1
  pub advises : Each (IsGivenAdvising c p) d.ended.now.advises

-- each deed of a pipe is such a stage
pub stages_given : {T : Type 0} (l : Members T) (c : Circuit) (p : Pipe) (ws : List ℕ) (xs : List (Option (MemLock T))) (ds : List StageDeeds)
    → Each (IsDeed l c p ws xs) ds → Each (IsGivenStage c p) ds
stages_given l c p ws xs [] h = tt
stages_given l c p ws xs (d ∷ ds) h = (
  record {
    moves = h.0.moves;
    advises = advises_given c p d.ended.now.advises h.0.walk.there.advises h.0.walk.sized.advises;
  },
  stages_given l c p ws xs ds h.1,
)

-- ---- one stage

module _ (p : Pipe) (a b : Circuit) (moves : Net) (xs : List AdvisingNet) where
  -- the ports of the first i writes of a stage have come
  abbrev pub AdvisedUpTo : ℕ → Type 0
  AdvisedUpTo i = ExtendsAdvice p a b (λ m. advises_to m (signal a moves) (map (advising_in a) (take i xs)))

  -- past the last one those of all writes have come
  pub advised_end : (i : ℕ) → length xs ≤ i → AdvisedUpTo i → ExtendsAdvice p a b (λ m. advises_to m (signal a moves) (map (advising_in a) xs))
  advised_end i l h =
      advice_as p a b (λ m. advises_to m (signal a moves) (map (advising_in a) (take i xs))) (λ m. advises_to m (signal a moves) (map (advising_in a) xs))
      (λ m. ap (λ ys. advises_to m (signal a moves) (map (advising_in a) ys)) (take_all i xs l)) h

  -- with the port of one write more, those of the first i + 1 have come
  pub advised_step : (c : Circuit) (i : ℕ) (d x : AdvisingNet) → IsThere a moves → i < length xs → x ≡ get_or xs i d → IsGivenAdvising a p x → AdvisedUpTo i
      → ExtendsAdvice p b c (λ m. advises_to m (signal b moves) (advising_in b x ∷ []))
      → ExtendsAdvice p a c (λ m. advises_to m (signal a moves) (map (advising_in a) (take (i + 1) xs)))
  advised_step c i d x t l e g h k =
      advice_as p a c (λ m. advises_to m f before ++ advises_to m (signal b moves) (advising_in b x ∷ []))
      (λ m. advises_to m f (map (advising_in a) (take (i + 1) xs))) same
      (advice_then p a b c (λ m. advises_to m f before) (λ m. advises_to m (signal b moves) (advising_in b x ∷ [])) h k)
    where
      f : Signal
      f = signal a moves

      before : List Advising
      before = map (advising_in a) (take i xs)

      same : (m : ℕ) → advises_to m f before ++ advises_to m (signal b moves) (advising_in b x ∷ [])
          ≡ advises_to m f (map (advising_in a) (take (i + 1) xs))
      same m =
          ap (λ (ws : List WriteSignal). advises_to m f before ++ ws)
          (ap₂ (λ (u : Signal) (v : Advising). advises_to m u (v ∷ [])) (h.keeps.kept moves t) (advising_same a b p h.keeps x g))
          ∙ sym (advises_snoc m f before (advising_in a x))
          ∙ ap (advises_to m f)
          (sym (map-append (advising_in a) (take i xs) (x ∷ []))
          ∙ ap (map (advising_in a)) (ap (λ (y : AdvisingNet). take i xs ++ y ∷ []) e ∙ sym (take_more xs i d l)))

-- ---- all stages

module _ (p : Pipe) (a b : Circuit) (ds : List StageDeeds) where
  -- the ports of the last i stages have come
  abbrev pub StagesAdvised : ℕ → Type 0
  StagesAdvised i = ExtendsAdvice p a b (λ m. all_advises m (views_in a ds) (moves_in a ds) i (length ds - i))

  -- with those of one stage more, those of the last i + 1 have come
  pub stages_step : (c : Circuit) (i : ℕ) (d : StageDeeds) → i < length ds → d ≡ get_or ds (length ds - 1 - i) d → IsGivenStage a p d → StagesAdvised i
      → ExtendsAdvice p b c (λ m. advises_to m (signal b d.moves) (map (advising_in b) d.ended.now.advises))
      → ExtendsAdvice p a c (λ m. all_advises m (views_in a ds) (moves_in a ds) (i + 1) (length ds - (i + 1)))
  stages_step c i d l e g h k =
      advice_as p a c (λ m. before m ++ advises_to m (signal b d.moves) (map (advising_in b) d.ended.now.advises))
      (λ m. all_advises m (views_in a ds) (moves_in a ds) (i + 1) (n - (i + 1))) same
      (advice_then p a b c before (λ m. advises_to m (signal b d.moves) (map (advising_in b) d.ended.now.advises)) h k)
    where
      n : ℕ
      n = length ds

      j : ℕ
      j = n - 1 - i

      before : ℕ → List WriteSignal
      before m = all_advises m (views_in a ds) (moves_in a ds) i (n - i)

      low : j < n
      low = omega (arith, l)

      goes : signal b d.moves ≡ moves_in a ds j
      goes = h.keeps.kept d.moves g.moves.there ∙ sym (moves_is a ds j d low e)

      writes : map (advising_in b) d.ended.now.advises ≡ (views_in a ds j).ended.advises
      writes = advises_same a b p h.keeps d.ended.now.advises g.advises ∙ sym (ap (λ (v : View). v.ended.advises) (view_is a ds j d low e))

      same : (m : ℕ) → before m ++ advises_to m (signal b d.moves) (map (advising_in b) d.ended.now.advises)
          ≡ all_advises m (views_in a ds) (moves_in a ds) (i + 1) (n - (i + 1))
      same m =
          ap (λ (ws : List WriteSignal). before m ++ ws) (ap₂ (advises_to m) goes writes)
          ∙ sym (advises_next m (views_in a ds) (moves_in a ds) n i j l refl)
