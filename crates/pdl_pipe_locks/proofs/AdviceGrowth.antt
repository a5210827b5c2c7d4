-- The arrays of memories without lock take write ports one after another, and nothing else changes what it takes next.
use Rattle.std.proofs.Common.{◌≡◌, ℕ, ◌+◌, ◌-◌, ◌^◌, ◌<◌, ◌≤◌, ◌==◌, Bool, true, false, List, [], ◌∷◌, ◌++◌, map, length, refl, sym, ap, ◌∙◌, subst, arith, inl, inr, append-nil, append_assoc, ⊎_elim}
use Rattle.std.specs.Prelude.{if◌then◌else◌, ◌≢◌}
use Rattle.std.proofs.lemmas.Bool.{false≢true, eqb-true, eqb-false, cases_lt}
use Rattle.pdl_word.specs.Each.{Each}
use Rattle.pdl_word.proofs.Each.{each_weaker}
use Rattle.pdl_semantics.specs.Flat.{Pipe, is_delayed}
use Rattle.pdl_semantics.specs.Stages.{mem_at}
use Rattle.pdl_net.specs.Circuit.{Circuit}
use Rattle.pdl_net.specs.Signal.{Signal}
use Rattle.pdl_net.specs.Meaning.{WriteSignal, write_signals}
use Rattle.pdl_net.specs.Growth.{Keeps, Extends, Outside, ExtendsBut}
use Rattle.pdl_net.proofs.Keeps.{keeps_refl, keeps_trans, extends_keeps, but_keeps}
use Rattle.pdl_net.proofs.KeptWidths.{width_keeps}
use Rattle.pdl_build.specs.Change.{one_array}
use Rattle.pdl_law_parts.specs.Walk.{Advising, is_locked, both}
use Rattle.pdl_law_parts.specs.Rows.{IsUnlocked}
use Rattle.pdl_law_parts.specs.Places.{comb_place}
use Rattle.pdl_law_parts.specs.Views.{View}
use Rattle.pdl_law_parts.specs.Ports.{advises_to, all_advises}
use Rattle.pdl_pipe_walk.specs.declared.nets.AdvisingNet.{AdvisingNet}
use Rattle.pdl_pipe_walk.specs.Parts.{advising_in}
use Rattle.pdl_pipe_walk.proofs.Lists.{map_each}
use Rattle.pdl_pipe_locks.specs.Advised.{HavePlainArrays, IsGivenAdvising, ExtendsAdvice}
use Rattle.pdl_pipe_locks.proofs.Places.{place_below}
use Rattle.pdl_pipe_locks.proofs.StageSteps.{one_further}

-- ---- what is kept

module _ (a b : Circuit) (p : Pipe) (k : Keeps a b) where
  -- the arrays stay there with their widths and depths
  pub plain_kept : HavePlainArrays a p → HavePlainArrays b p
  plain_kept h = record {
    has_array = λ m l e. k.has_array (comb_place p m) (h.has_array m l e);
    width = λ m l e. k.word (comb_place p m) (h.has_array m l e) ∙ h.width m l e;
    depth = λ m l f e. k.depth (comb_place p m) (h.has_array m l e) ∙ h.depth m l f e;
  }

  -- what a stage writes by advice stays there
  pub given_advising : (x : AdvisingNet) → IsGivenAdvising a p x → IsGivenAdvising b p x
  given_advising x g = record {
    low = g.low;
    unlocked = g.unlocked;
    on = width_keeps a b x.on 1 k g.on;
    addr = k.there x.addr g.addr;
    reach = ap (λ (f : Signal). 2 ^ f.width) (k.kept x.addr g.addr) ∙ g.reach;
    value = width_keeps a b x.value (mem_at p x.mem).width k g.value;
  }

  -- all of it does
  pub given_advises : (xs : List AdvisingNet) → Each (IsGivenAdvising a p) xs → Each (IsGivenAdvising b p) xs
  given_advises xs g = each_weaker (IsGivenAdvising a p) (IsGivenAdvising b p) given_advising xs g

  -- and means what it meant
  pub advising_same : (x : AdvisingNet) → IsGivenAdvising a p x → advising_in b x ≡ advising_in a x
  advising_same x g = cc (k.kept x.on g.on.there, k.kept x.addr g.addr, k.kept x.value g.value.there)

  -- all of it does
  pub advises_same : (xs : List AdvisingNet) → Each (IsGivenAdvising a p) xs → map (advising_in b) xs ≡ map (advising_in a) xs
  advises_same xs g = map_each (advising_in b) (advising_in a) (IsGivenAdvising a p) advising_same xs g

-- ---- more write ports

module _ (p : Pipe) where
  -- where nothing is written, no port comes
  pub advice_none : (a b : Circuit) → HavePlainArrays a p → Extends a b → ExtendsAdvice p a b (λ m. [])
  advice_none a b h e = record {
    keeps = extends_keeps a b e;
    nexts = e.nexts;
    plain = λ m l f g. e.writes (comb_place p m) (h.has_array m l g) ∙ sym (append-nil (write_signals a (comb_place p m)));
    locked = λ m l f g. e.writes (comb_place p m) (h.has_array m l g);
    ports = e.ports;
    shapes = e.shapes;
  }

  -- a circuit has no port more than itself
  pub advice_same : (a : Circuit) → ExtendsAdvice p a a (λ m. [])
  advice_same a = record {
    keeps = keeps_refl a;
    nexts = λ r h. refl;
    plain = λ m l f g. sym (append-nil (write_signals a (comb_place p m)));
    locked = λ m l f g. refl;
    ports = refl;
    shapes = refl;
  }

  -- the ports of two steps come one after the other
  pub advice_then : (a b c : Circuit) (f g : ℕ → List WriteSignal) → ExtendsAdvice p a b f → ExtendsAdvice p b c g
      → ExtendsAdvice p a c (λ m. f m ++ g m)
  advice_then a b c f g h k = record {
    keeps = keeps_trans a b c h.keeps k.keeps;
    nexts = λ r x. k.nexts r (h.keeps.has_reg r x) ∙ h.nexts r x;
    plain = λ m l u v. k.plain m l u v ∙ ap (λ ws. ws ++ g m) (h.plain m l u v) ∙ append_assoc (write_signals a (comb_place p m)) (f m) (g m);
    locked = λ m l u v. k.locked m l u v ∙ h.locked m l u v;
    ports = k.ports ∙ h.ports;
    shapes = k.shapes ∙ h.shapes;
  }

  -- the same ports by another name
  pub advice_as : (a b : Circuit) (f g : ℕ → List WriteSignal) → ((m : ℕ) → f m ≡ g m) → ExtendsAdvice p a b f → ExtendsAdvice p a b g
  advice_as a b f g e h = record {
    keeps = h.keeps;
    nexts = h.nexts;
    plain = λ m l u v. h.plain m l u v ∙ ap (λ ws. write_signals a (comb_place p m) ++ ws) (e m);
    locked = h.locked;
    ports = h.ports;
    shapes = h.shapes;
  }

  -- other memories have other arrays
  other_place : (m n : ℕ) → m < length p.mems → n < length p.mems → is_delayed (mem_at p m).kind ≡ false → is_delayed (mem_at p n).kind ≡ false
      → n ≢ m → Outside (comb_place p n) (comb_place p n + 1) (comb_place p m)
  other_place m n l k e f ne = ⊎_elim
      (λ (h : m < n). inl (place_below p m n h (omega (arith, k)) e))
      (λ (h : n ≤ m). inr
      (let d : n < m = omega (arith, h, ne) in
      let b = place_below p n m d (omega (arith, l)) f in
      omega (arith, b)))
      (cases_lt m n)

  -- one port more of the array of memory n
  pub advice_one : (b d : Circuit) (n : ℕ) (w : WriteSignal) → n < length p.mems → IsUnlocked p n → HavePlainArrays b p
      → ExtendsBut (one_array (comb_place p n)) b d → write_signals d (comb_place p n) ≡ write_signals b (comb_place p n) ++ w ∷ []
      → ExtendsAdvice p b d (λ m. if n == m then w ∷ [] else [])
  advice_one b d n w low free has e writes = record {
    keeps = but_keeps (one_array (comb_place p n)) b d e;
    nexts = λ r h. e.nexts r h (inr (omega arith));
    plain = λ m l u v. plain m l v (n == m) refl;
    locked = λ m l u v. other m l v (λ i. false≢true (sym free.0 ∙ ap (is_locked p) i ∙ u));
    ports = e.ports;
    shapes = e.shapes;
  }
    where
      other : (m : ℕ) → m < length p.mems → is_delayed (mem_at p m).kind ≡ false → n ≢ m → write_signals d (comb_place p m) ≡ write_signals b (comb_place p m)
      other m l v ne = e.writes (comb_place p m) (has.has_array m l v) (other_place m n l low v free.1 ne)

      plain : (m : ℕ) → m < length p.mems → is_delayed (mem_at p m).kind ≡ false → (t : Bool) → (n == m) ≡ t
          → write_signals d (comb_place p m) ≡ write_signals b (comb_place p m) ++ (if t then w ∷ [] else [])
      plain m l v true i = subst (λ j. write_signals d (comb_place p j) ≡ write_signals b (comb_place p j) ++ w ∷ []) (eqb-true n m i) writes
      plain m l v false i = other m l v (eqb-false n m i) ∙ sym (append-nil (write_signals b (comb_place p m)))

-- ---- the writes of a stage, and of all stages

-- the ports of one write more come after those of the others
pub advises_snoc : (m : ℕ) (moves : Signal) (xs : List Advising) (x : Advising)
    → advises_to m moves (xs ++ x ∷ []) ≡ advises_to m moves xs ++ advises_to m moves (x ∷ [])
advises_snoc m moves [] x = refl
advises_snoc m moves (y ∷ ys) x = at (y.mem == m) (advises_snoc m moves ys x)
  where
    at : (b : Bool) → advises_to m moves (ys ++ x ∷ []) ≡ advises_to m moves ys ++ advises_to m moves (x ∷ [])
        → (if b then record { enable = both moves y.on; addr = y.addr; value = y.value } ∷ advises_to m moves (ys ++ x ∷ [])
        else advises_to m moves (ys ++ x ∷ []))
        ≡ (if b then record { enable = both moves y.on; addr = y.addr; value = y.value } ∷ advises_to m moves ys
        else advises_to m moves ys) ++ advises_to m moves (x ∷ [])
    at true h = ap (λ ws. record { enable = both moves y.on; addr = y.addr; value = y.value } ∷ ws) h
    at false h = h

-- the ports of one stage more, from the last stage on, come after those of the later stages
pub advises_next : (m : ℕ) (vs : ℕ → View) (moves : ℕ → Signal) (n i k : ℕ)
    → i < n → k ≡ n - 1 - i
    → all_advises m vs moves (i + 1) (n - (i + 1)) ≡ all_advises m vs moves i (n - i) ++ advises_to m (moves k) (vs k).ended.advises
advises_next m vs moves n i k l e = let f = one_further (all_advises m vs moves) n i k l e in
    f.0 ∙ ap (λ xs. xs ++ advises_to m (moves k) (vs k).ended.advises) f.1
