-- What a thread does but for its guess and its advisory writes doesn't hang on what advisory memories say: advised values reach nothing else.
use Rattle.std.proofs.Common.{◌≡◌, refl, sym, ap, ap₂, ◌∙◌, ℕ, Bool, true, false, List, [], ◌∷◌, ◌++◌, Some, cond, if◌then◌else◌, slice_index, slice_set}
use Rattle.std.proofs.lemmas.Bool.{not-true, and_parts}
use Rattle.pdl_semantics.specs.Flat.{is_advisory, list_all, Op, Bind, CombRead, DelayedRead, Write, ReserveRead, ReserveWrite, Block, Release, Call, SpecCall, Verify, SpecCheck, SpecBarrier, AdviceBind, AdviceRead, AdviceWrite, Stmt, Pipe, all_hold, value_of}
use Rattle.pdl_semantics.specs.Stages.{in_stage, mem_at}
use Rattle.pdl_semantics.specs.Machine.{Deeds, Thread, deeds_after, deeds_after_all, deeds_with, held_after, held_before, is_held, same_args, with_kept, checked_args}
use Rattle.pdl_semantics.specs.Promises.{fits_kind}

-- the same but for advice, guesses, advisory writes and the successor
pub record Alike (d e : Deeds) : Type 0 where
  pub env : d.env ≡ e.env
  pub held : d.held ≡ e.held
  pub blocks : d.blocks ≡ e.blocks
  pub reserves : d.reserves ≡ e.reserves
  pub writes : d.writes ≡ e.writes
  pub releases : d.releases ≡ e.releases
  pub asks : d.asks ≡ e.asks
  pub barrier : d.barrier ≡ e.barrier

-- words that are the same in the other memories
abbrev pub SameWords : Pipe → (ℕ → ℕ → ℕ) → (ℕ → ℕ → ℕ) → Type 0
SameWords p read other = (m a : ℕ) → is_advisory (mem_at p m).kind ≡ false → read m a ≡ other m a

-- only what is left out changes
still : (d d' e e' : Deeds)
    → Alike d e → d'.env ≡ d.env → d'.held ≡ d.held → d'.blocks ≡ d.blocks → d'.reserves ≡ d.reserves → d'.writes ≡ d.writes
    → d'.releases ≡ d.releases → d'.asks ≡ d.asks → d'.barrier ≡ d.barrier
    → e'.env ≡ e.env → e'.held ≡ e.held → e'.blocks ≡ e.blocks → e'.reserves ≡ e.reserves → e'.writes ≡ e.writes → e'.releases ≡ e.releases
    → e'.asks ≡ e.asks → e'.barrier ≡ e.barrier → Alike d' e'
still d d' e e' h a b c f g i j k a' b' c' f' g' i' j' k' =
    record {
      env = a ∙ h.env ∙ sym a';
      held = b ∙ h.held ∙ sym b';
      blocks = c ∙ h.blocks ∙ sym c';
      reserves = f ∙ h.reserves ∙ sym f';
      writes = g ∙ h.writes ∙ sym g';
      releases = i ∙ h.releases ∙ sym i';
      asks = j ∙ h.asks ∙ sym j';
      barrier = k ∙ h.barrier ∙ sym k';
    }

alike_op : (p : Pipe) (read other : ℕ → ℕ → ℕ)
    → SameWords p read other → (op : Op) → fits_kind p op ≡ true → (d e : Deeds) → Alike d e
    → Alike (deeds_after read op d) (deeds_after other op e)
alike_op p read other w (Bind x a) r d e h =
    record {
      env = ap (λ v. slice_set v x
          (value_of a v)) h.env;
      held = h.held;
      blocks = h.blocks;
      reserves = h.reserves;
      writes = h.writes;
      releases = h.releases;
      asks = h.asks;
      barrier = h.barrier;
    }
alike_op p read other w (CombRead x m a) r d e h =
    record {
      env = ap (λ v. slice_set v x (read m (slice_index v a))) h.env ∙ ap (slice_set e.env x) (w m (slice_index e.env a) (not-true _ r));
      held = h.held;
      blocks = h.blocks;
      reserves = h.reserves;
      writes = h.writes;
      releases = h.releases;
      asks = h.asks;
      barrier = h.barrier;
    }
alike_op p read other w (DelayedRead x m a) r d e h =
    record {
      env = h.env;
      held = h.held;
      blocks = h.blocks;
      reserves = h.reserves;
      writes = h.writes;
      releases = h.releases;
      asks = ap₂ (λ l v. l ++ record { mem = m; var = x; address = slice_index v a } ∷ []) h.asks h.env;
      barrier = h.barrier;
    }
alike_op p read other w (Write m a v) r d e h =
    record {
      env = h.env;
      held = h.held;
      blocks = h.blocks;
      reserves = h.reserves;
      writes = ap₂ (λ l u. l ++ record { mem = m; var = a; value = value_of v u } ∷ []) h.writes h.env;
      releases = h.releases;
      asks = h.asks;
      barrier = h.barrier;
    }
alike_op p read other w (ReserveRead m a) r d e h = h
alike_op p read other w (ReserveWrite m a) r d e h =
    record {
      env = h.env;
      held = ap (held_after (ReserveWrite m a)) h.held;
      blocks = h.blocks;
      reserves = ap₂ (λ l v. l ++ record { mem = m; var = a; address = slice_index v a } ∷ []) h.reserves h.env;
      writes = h.writes;
      releases = h.releases;
      asks = h.asks;
      barrier = h.barrier;
    }
alike_op p read other w (Block m a) r d e h =
    record {
      env = h.env;
      held = h.held;
      blocks = (λ i. h.blocks i ++ record { mem = m; address = slice_index (h.env i) a; writes = is_held (h.held i) m a } ∷ []);
      reserves = h.reserves;
      writes = h.writes;
      releases = h.releases;
      asks = h.asks;
      barrier = h.barrier;
    }
alike_op p read other w (Release m a) r d e h =
    record {
      env = h.env;
      held = ap (held_after (Release m a)) h.held;
      blocks = h.blocks;
      reserves = h.reserves;
      writes = h.writes;
      releases = ap₂ (λ l k. l ++ (if is_held k m a then m ∷ [] else [])) h.releases h.held;
      asks = h.asks;
      barrier = h.barrier;
    }
alike_op p read other w (Call args) r d e h =
    record { env = h.env; held = h.held; blocks = h.blocks; reserves = h.reserves; writes = h.writes; releases = h.releases; asks = h.asks; barrier = h.barrier }
alike_op p read other w (SpecCall args) r d e h =
    record { env = h.env; held = h.held; blocks = h.blocks; reserves = h.reserves; writes = h.writes; releases = h.releases; asks = h.asks; barrier = h.barrier }
alike_op p read other w (Verify last args) r d e h = at (same_args (checked_args last args d) d.guess) (same_args (checked_args last args e) e.guess)
  where
    at : (b c : Bool)
        → Alike (cond b d (record d { child = Some (checked_args last args d); guess = checked_args last args d; fails = true }))
        (cond c e (record e { child = Some (checked_args last args e); guess = checked_args last args e; fails = true }))
    at true true = h
    at true false =
        still d d e
        (record e {
          child = Some
              (checked_args last args e);
          guess = checked_args last args e;
          fails = true;
        }) h refl refl refl refl refl refl refl refl refl refl refl refl refl refl refl refl
    at false true =
        still d
        (record d {
          child = Some
              (checked_args last args d);
          guess = checked_args last args d;
          fails = true;
        }) e e h refl refl refl refl refl refl refl refl refl refl refl refl refl refl refl refl
    at false false =
        still d (record d { child = Some (checked_args last args d); guess = checked_args last args d; fails = true }) e
        (record e {
          child = Some
              (checked_args last args e);
          guess = checked_args last args e;
          fails = true;
        }) h refl refl refl refl refl refl refl refl refl refl refl refl refl refl refl refl
alike_op p read other w SpecCheck r d e h = h
alike_op p read other w SpecBarrier r d e h =
    record { env = h.env; held = h.held; blocks = h.blocks; reserves = h.reserves; writes = h.writes; releases = h.releases; asks = h.asks; barrier = refl }
alike_op p read other w (AdviceBind x a) r d e h =
    record { env = h.env; held = h.held; blocks = h.blocks; reserves = h.reserves; writes = h.writes; releases = h.releases; asks = h.asks; barrier = h.barrier }
alike_op p read other w (AdviceRead x m a) r d e h =
    record { env = h.env; held = h.held; blocks = h.blocks; reserves = h.reserves; writes = h.writes; releases = h.releases; asks = h.asks; barrier = h.barrier }
alike_op p read other w (AdviceWrite m a v) r d e h =
    record { env = h.env; held = h.held; blocks = h.blocks; reserves = h.reserves; writes = h.writes; releases = h.releases; asks = h.asks; barrier = h.barrier }

alike_all : (p : Pipe) (read other : ℕ → ℕ → ℕ)
    → SameWords p read other → (xs : List Stmt) → list_all (λ (x : Stmt). fits_kind p x.op) xs ≡ true → (d e : Deeds) → Alike d e
    → Alike (deeds_after_all read xs d) (deeds_after_all other xs e)
alike_all p read other w [] r d e h = h
alike_all p read other w (x ∷ xs) r d e h =
    alike_all p read other w xs k.1 (if all_hold x.guards d.env then deeds_after read x.op d else d)
    (if all_hold x.guards e.env then deeds_after other x.op e else e)
    (at (all_hold x.guards d.env) (all_hold x.guards e.env) (ap (all_hold x.guards) h.env))
  where
    k : (fits_kind p x.op ≡ true) × (list_all (λ (x : Stmt). fits_kind p x.op) xs ≡ true)
    k = and_parts (fits_kind p x.op) _ r

    at : (b c : Bool) → b ≡ c → Alike (cond b (deeds_after read x.op d) d) (cond c (deeds_after other x.op e) e)
    at true true i = alike_op p read other w x.op k.0 d e h
    at true false i = absurd (cc i)
    at false true i = absurd (cc i)
    at false false i = h

-- a thread with other advice, another guess and other words in advisory memories does the same
pub advice_apart : (p : Pipe) (read other : ℕ → ℕ → ℕ)
    → SameWords p read other → (s : ℕ) → list_all (λ (x : Stmt). fits_kind p x.op) (in_stage s p.stmts) ≡ true → (t u : Thread)
    → t.env ≡ u.env → t.kept ≡ u.kept
    → Alike (deeds_with read p s t) (deeds_with other p s u)
advice_apart p read other w s r t u e k =
    alike_all p read other w (in_stage s p.stmts) r _ _
    (record {
      env = ap₂ with_kept k e;
      held = ap
          (λ v. held_before s v p.stmts []) e;
      blocks = refl;
      reserves = refl;
      writes = refl;
      releases = refl;
      asks = refl;
      barrier = refl;
    })
