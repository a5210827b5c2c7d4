-- Names that are added one after another, each for what its net is.
use Rattle.std.proofs.Common.{◌≡◌, ap, ◌∙◌, sym, ℕ, ◌<◌, List, [], ◌∷◌, ◌++◌, length, take, ◌⊎◌, inl, inr, arith}
use Rattle.std.proofs.lemmas.List.{length-take}
use Rattle.std.proofs.lemmas.List.Elements.{Contains-append_left, Contains-push}
use Rattle.pdl_word.proofs.Each.{each_push}
use Rattle.pdl_semantics.specs.Flat.{Pipe}
use Rattle.pdl_net.specs.declared.Net.{Net}
use Rattle.pdl_net.specs.declared.Net.TheVariants.{Reg as RegNet}
use Rattle.pdl_net.specs.Circuit.{Circuit}
use Rattle.pdl_net.specs.Meaning.{IsThere, Means}
use Rattle.pdl_law_parts.specs.Views.{View}
use Rattle.pdl_pipe_exprs.specs.Nets.{NetsThere, signals_in, signal_at}
use Rattle.pdl_pipe_registers.specs.declared.nets.StageNets.{StageNets}
use Rattle.pdl_pipe_registers.specs.Stages.{IsAt}
use Rattle.pdl_pipe_registers.proofs.Lists.{view_at}
use Rattle.pdl_pipe_registers.proofs.Begins.{nets_long}
use Rattle.pdl_pipe_nexts.specs.declared.line.StageLine.{StageLine}
use Rattle.pdl_pipe_nexts.specs.Lines.{line_form, line_pipe, IsLineIn}
use Rattle.pdl_pipe.specs.declared.names.Role.{Role}
use Rattle.pdl_pipe.specs.declared.names.Role.TheVariants.{Holds, Moves, Keeps, Ends, Guess, Marked, Ticket, Lock, Port, Order, Tail}
use Rattle.pdl_pipe.specs.declared.names.NamedNet.{NamedNet}
use Rattle.pdl_pipe.specs.Names.{IsLive, IsNamed}
use Rattle.pdl_pipe.specs.NamedNets.{IsUntold, MeansRole, IsNamedIn, IsPassedIn, HasVarNames, HasStageNames, AddsNames}

-- a net with a role
abbrev pub with_role : Net → Role → NamedNet
with_role y role = record { net = y; role = role }

-- the last name is there
pub last_named : (names : List NamedNet) (y : Net) (role : Role) → IsNamed (names ++ with_role y role ∷ []) role
last_named names y role = (y, Contains-push names (with_role y role))

module _ (c : Circuit) (x : StageLine) where
  -- ---- one after another

  -- no name is added
  pub adds_none : (names : List NamedNet) → AddsNames c x names names
  adds_none names = record { each = λ h. h; stays = λ y h. h }

  -- some names are added, and then more
  pub adds_more : (a b d : List NamedNet) → AddsNames c x a b → AddsNames c x b d → AddsNames c x a d
  adds_more a b d f g = record { each = λ h. g.each (f.each h); stays = λ y h. g.stays y (f.stays y h) }

  -- a name is added
  pub adds_one : (names : List NamedNet) (y : NamedNet) → IsNamedIn c x y → AddsNames c x names (names ++ y ∷ [])
  adds_one names y is = record {
    each = λ h. each_push (IsNamedIn c x) names y h is;
    stays = λ z h. Contains-append_left names (y ∷ []) z h;
  }

  -- a role for which some net was named has one still
  pub named_stays : (a b : List NamedNet) (role : Role) → AddsNames c x a b → IsNamed a role → IsNamed b role
  named_stays a b role f h = (h.0, f.stays (with_role h.0 role) h.1)

  -- a variable that had its names has them still
  pub var_stays : (a b : List NamedNet) (k v : ℕ) → AddsNames c x a b → HasVarNames c x a k v → HasVarNames c x b k v
  var_stays a b k v f h = record { keeps = named_stays a b (Keeps k v) f h.keeps; ends = at h.ends }
    where
      at : IsNamed a (Ends k v) ⊎ IsPassedIn c x a k v → IsNamed b (Ends k v) ⊎ IsPassedIn c x b k v
      at (inl e) = inl (named_stays a b (Ends k v) f e)
      at (inr e) = inr (e.0, f.stays (with_role e.0 (Keeps k v)) e.1, e.2)

  -- so has a stage
  pub stage_stays : (a b : List NamedNet) (k : ℕ) → AddsNames c x a b → HasStageNames c x a k → HasStageNames c x b k
  stage_stays a b k f h = record {
    holds = named_stays a b (Holds k) f h.holds;
    moves = named_stays a b (Moves k) f h.moves;
    vars = λ v live. var_stays a b k v f (h.vars v live);
    guess = λ i live. named_stays a b (Guess k i) f (h.guess i live);
  }

  -- ---- of which nothing is told

  untold_live : (p : Pipe) (role : Role) → IsUntold role → IsLive p role
  untold_live p (Holds k) u = absurd u
  untold_live p (Moves k) u = absurd u
  untold_live p (Keeps k v) u = absurd u
  untold_live p (Ends k v) u = absurd u
  untold_live p (Guess k i) u = absurd u
  untold_live p (Marked k h m a) u = tt
  untold_live p (Ticket k m) u = tt
  untold_live p (Lock m i) u = tt
  untold_live p (Port m i) u = tt
  untold_live p (Order k i) u = tt
  untold_live p (Tail k m) u = tt

  untold_means : (role : Role) (y : Net) → IsUntold role → MeansRole c x role y
  untold_means (Holds k) y u = absurd u
  untold_means (Moves k) y u = absurd u
  untold_means (Keeps k v) y u = absurd u
  untold_means (Ends k v) y u = absurd u
  untold_means (Guess k i) y u = absurd u
  untold_means (Marked k h m a) y u = tt
  untold_means (Ticket k m) y u = tt
  untold_means (Lock m i) y u = tt
  untold_means (Port m i) y u = tt
  untold_means (Order k i) y u = tt
  untold_means (Tail k m) y u = tt

  -- a register that is there is named for a role of which nothing is told
  pub untold : (r : ℕ) (role : Role) → r < length c.regs → IsUntold role → IsNamedIn c x (with_role (RegNet r) role)
  unfolding IsThere
  untold r role low u = record { there = low; live = untold_live (line_pipe x) role u; means = untold_means role (RegNet r) u }

  -- ---- of a stage

  module _ (k : ℕ) (s : StageNets) (low : k < length x.stages.now) (is : IsAt x.stages.now k s) where
    -- what it keeps of each variable is there
    pub kept_there : IsLineIn c x → NetsThere c s.vars
    kept_there line = (line.stages k s low is).nets.vars

    pub kept_long : IsLineIn c x → length s.vars ≡ (line_pipe x).vars
    kept_long line = nets_long c (line_form x).widths s.vars (line.stages k s low is).nets.vars_wide

    -- so is what its statements leave
    pub ended_there : IsLineIn c x → NetsThere c s.end.vars.items
    ended_there line = (line.stages k s low is).walk.there.vars

    pub ended_long : IsLineIn c x → length s.end.vars.items ≡ (line_pipe x).vars
    ended_long line = nets_long c (line_form x).widths s.end.vars.items (line.stages k s low is).walk.sized.vars

    -- and each argument of its guess
    pub guess_there : IsLineIn c x → NetsThere c s.guess
    guess_there line = (line.stages k s low is).nets.guess

    pub guess_long : IsLineIn c x → length s.guess ≡ length (line_pipe x).start
    guess_long line =
        let n = nets_long c (take (length (line_pipe x).start) (line_form x).widths) s.guess (line.stages k s low is).nets.guess_wide in
        let m = length-take (length (line_pipe x).start) (line_form x).widths in
        let l = line.params in
        omega (arith, n, m, l)

    -- a net that means a variable as the stage begins
    pub keeps_named : (v : ℕ) (y : Net) → IsLive (line_pipe x) (Keeps k v) → Means c y (signal_at (signals_in c s.vars) v)
        → IsNamedIn c x (with_role y (Keeps k v))
    keeps_named v y live m = record {
      there = m.there;
      live = live;
      means = m.same ∙ ap (λ (u : View). u.kept v) (sym (view_at c x.stages.now k s low is));
    }

    -- what a variable means after its statements
    pub ends_means : (v : ℕ) (y : Net) → Means c y (signal_at (signals_in c s.end.vars.items) v) → MeansRole c x (Ends k v) y
    ends_means v y m = m.same ∙ ap (λ (u : View). u.ended.vars v) (sym (view_at c x.stages.now k s low is))

    -- a net that means a variable after its statements
    pub ends_named : (v : ℕ) (y : Net) → IsLive (line_pipe x) (Ends k v) → Means c y (signal_at (signals_in c s.end.vars.items) v)
        → IsNamedIn c x (with_role y (Ends k v))
    ends_named v y live m = record { there = m.there; live = live; means = ends_means v y m }

    -- a net that means an argument of the guess as the stage begins
    pub guess_named : (i : ℕ) (y : Net) → IsLive (line_pipe x) (Guess k i) → Means c y (signal_at (signals_in c s.guess) i)
        → IsNamedIn c x (with_role y (Guess k i))
    guess_named i y live m = record {
      there = m.there;
      live = live;
      means = m.same ∙ ap (λ (u : View). signal_at u.begun.guess i) (sym (view_at c x.stages.now k s low is));
    }

    -- the register that tells whether it holds a thread
    pub holds_named : IsLineIn c x → IsLive (line_pipe x) (Holds k) → IsNamedIn c x (with_role (RegNet s.regs.valid) (Holds k))
    holds_named line live =
        let valid = (line.stages k s low is).registers.valid in record {
          there = valid.there;
          live = live;
          means = valid.same ∙ ap (λ (u : View). u.valid) (sym (view_at c x.stages.now k s low is));
        }

  -- the net that tells whether the thread of a stage moves
  pub moves_named : (k : ℕ) (y : Net) → IsLive (line_pipe x) (Moves k) → Means c y (signal_at (signals_in c x.moves.now) k)
      → IsNamedIn c x (with_role y (Moves k))
  moves_named k y live m = record { there = m.there; live = live; means = m.same }

  -- ---- of a variable

  -- a variable that leaves its stage as it is kept has its names by one net
  pub passed_named : (names : List NamedNet) (k v : ℕ) (y : Net) → MeansRole c x (Ends k v) y
      → HasVarNames c x (names ++ with_role y (Keeps k v) ∷ []) k v
  passed_named names k v y m = record {
    keeps = last_named names y (Keeps k v);
    ends = inr (y, Contains-push names (with_role y (Keeps k v)), m);
  }

  -- another one has them by two
  pub both_named : (names : List NamedNet) (k v : ℕ) (y z : Net)
      → HasVarNames c x ((names ++ with_role y (Keeps k v) ∷ []) ++ with_role z (Ends k v) ∷ []) k v
  both_named names k v y z =
      let more = names ++ with_role y (Keeps k v) ∷ [] in record {
        keeps = (y, Contains-append_left more (with_role z (Ends k v) ∷ []) (with_role y (Keeps k v)) (Contains-push names (with_role y (Keeps k v))));
        ends = inl (last_named more z (Ends k v));
      }
