-- The nets of a walk keep what they mean while the circuit grows.
use Rattle.std.proofs.Common.{◌≡◌, ℕ, Bool, true, false, List, [], ◌∷◌, map, refl, sym, ap, ap₂, ◌∙◌, subst}
use Rattle.std.specs.Prelude.{◌==◌, ◌&&◌, if◌then◌else◌, length, slice_index}
use Rattle.pdl_semantics.specs.Flat.{Pipe}
use Rattle.pdl_net.specs.declared.Net.{Net}
use Rattle.pdl_net.specs.Circuit.{Circuit}
use Rattle.pdl_net.specs.Signal.{Signal}
use Rattle.pdl_net.specs.Meaning.{signal, IsThere, Means}
use Rattle.pdl_net.specs.Growth.{Keeps}
use Rattle.pdl_pipe_exprs.specs.declared.bits.Bits.{Bits}
use Rattle.pdl_pipe_exprs.specs.Nets.{NetsThere, signal_at}
use Rattle.pdl_pipe_exprs.specs.Conditions.{AreBits}
use Rattle.pdl_pipe_exprs.proofs.NetLists.{there_keeps, signals_keep, width_at, length_widths}
use Rattle.pdl_law_parts.specs.declared.Mark.{Mark}
use Rattle.pdl_law_parts.specs.Walk.{same_mark}
use Rattle.pdl_pipe_walk.specs.declared.nets.MarkNet.{MarkNet}
use Rattle.pdl_pipe_walk.specs.declared.nets.ReserveNet.{ReserveNet}
use Rattle.pdl_pipe_walk.specs.declared.nets.PutNet.{PutNet}
use Rattle.pdl_pipe_walk.specs.declared.nets.LettingNet.{LettingNet}
use Rattle.pdl_pipe_walk.specs.declared.nets.BirthNet.{BirthNet}
use Rattle.pdl_pipe_walk.specs.declared.nets.AskNet.{AskNet}
use Rattle.pdl_pipe_walk.specs.declared.nets.AdvisingNet.{AdvisingNet}
use Rattle.pdl_pipe_walk.specs.declared.nets.WalkNets.{WalkNets}
use Rattle.pdl_pipe_walk.specs.Parts.{MarkSignal, Parts, mark_of, mark_in, reservation_in, put_in, letting_in, birth_in, ask_in, advising_in, parts_in, IsThereWalk}
use Rattle.pdl_pipe_walk.specs.MarkLookups.{mark_net}
use Rattle.pdl_pipe_walk.specs.Sized.{IsSized, IsWalk}
use Rattle.pdl_pipe_walk.proofs.Lists.{map_each}
use Rattle.pdl_word.specs.Each.{Each}
use Rattle.pdl_word.proofs.Each.{each_weaker}

-- the nets that are always 1 and always 0 stay so in a circuit that keeps them
pub bits_keep : (a b : Circuit) (x : Bits) → Keeps a b → AreBits a x → AreBits b x
bits_keep a b x e t = record {
  one = record { there = e.there x.one t.one.there; same = e.kept x.one t.one.there ∙ t.one.same };
  zero = record { there = e.there x.zero t.zero.there; same = e.kept x.zero t.zero.there ∙ t.zero.same };
}

module _ (a b : Circuit) (e : Keeps a b) where
  -- marks of locations mean what they meant
  pub marks_keep : (hs : List MarkNet) → Each (λ (h : MarkNet). IsThere a h.net) hs → map (mark_in b) hs ≡ map (mark_in a) hs
  marks_keep hs t =
      map_each (mark_in b) (mark_in a) (λ h. IsThere a h.net)
      (λ h k. ap (λ f. record { mark = h.mark; mem = h.mem; var = h.var; signal = f }) (e.kept h.net k)) hs t

  reserves_keep : (rs : List ReserveNet) → Each (λ (r : ReserveNet). IsThere a r.on × IsThere a r.addr) rs
      → map (reservation_in b) rs ≡ map (reservation_in a) rs
  reserves_keep rs t =
      map_each (reservation_in b) (reservation_in a) (λ r. IsThere a r.on × IsThere a r.addr)
      (λ r k. ap₂ (λ f g. record { mem = r.mem; var = r.var; on = f; addr = g }) (e.kept r.on k.0) (e.kept r.addr k.1)) rs t

  puts_keep : (xs : List PutNet) → Each (λ (x : PutNet). IsThere a x.on × IsThere a x.value) xs → map (put_in b) xs ≡ map (put_in a) xs
  puts_keep xs t =
      map_each (put_in b) (put_in a) (λ x. IsThere a x.on × IsThere a x.value)
      (λ x k. ap₂ (λ f g. record { mem = x.mem; var = x.var; on = f; value = g }) (e.kept x.on k.0) (e.kept x.value k.1)) xs t

  lettings_keep : (xs : List LettingNet) → Each (λ (x : LettingNet). IsThere a x.on) xs → map (letting_in b) xs ≡ map (letting_in a) xs
  lettings_keep xs t = map_each (letting_in b) (letting_in a) (λ x. IsThere a x.on) (λ x k. ap (λ f. record { mem = x.mem; on = f }) (e.kept x.on k)) xs t

  births_keep : (xs : List BirthNet) → Each (λ (x : BirthNet). IsThere a x.on × NetsThere a x.args) xs → map (birth_in b) xs ≡ map (birth_in a) xs
  births_keep xs t =
      map_each (birth_in b) (birth_in a) (λ x. IsThere a x.on × NetsThere a x.args)
      (λ x k. ap₂ (λ f fs. record { on = f; args = fs }) (e.kept x.on k.0) (signals_keep a b x.args e k.1)) xs t

  asks_keep : (xs : List AskNet) → Each (λ (x : AskNet). IsThere a x.on × IsThere a x.addr) xs → map (ask_in b) xs ≡ map (ask_in a) xs
  asks_keep xs t =
      map_each (ask_in b) (ask_in a) (λ x. IsThere a x.on × IsThere a x.addr)
      (λ x k. ap₂ (λ f g. record { mem = x.mem; var = x.var; on = f; addr = g }) (e.kept x.on k.0) (e.kept x.addr k.1)) xs t

  advises_keep : (xs : List AdvisingNet) → Each (λ (x : AdvisingNet). IsThere a x.on × IsThere a x.addr × IsThere a x.value) xs
      → map (advising_in b) xs ≡ map (advising_in a) xs
  advises_keep xs t =
      map_each (advising_in b) (advising_in a) (λ x. IsThere a x.on × IsThere a x.addr × IsThere a x.value)
      (λ x k. ap (λ f. record { mem = x.mem; on = f; addr = signal b x.addr; value = signal b x.value }) (e.kept x.on k.0)
      ∙ ap₂ (λ f g. record { mem = x.mem; on = signal a x.on; addr = f; value = g }) (e.kept x.addr k.1) (e.kept x.value k.2)) xs t

  -- all nets of a walk mean what they meant
  pub parts_keep : (w : WalkNets) → IsThereWalk a w → parts_in b w ≡ parts_in a w
  parts_keep w t =
      cc (
        signals_keep a b w.vars.items e t.vars,
        marks_keep w.marks.items t.marks,
        e.kept w.ready t.ready,
        reserves_keep w.reserves t.reserves,
        puts_keep w.puts t.puts,
        lettings_keep w.lettings t.lettings,
        births_keep w.births.items t.births,
        asks_keep w.asks t.asks,
        advises_keep w.advises t.advises,
        signals_keep a b w.guess e t.guess,
        e.kept w.fails t.fails,
        e.kept w.barrier t.barrier,
      )

  -- the nets of a walk stay there
  pub there_walk : (w : WalkNets) → IsThereWalk a w → IsThereWalk b w
  there_walk w t = record {
    vars = there_keeps a b w.vars.items e t.vars;
    marks = each_weaker (λ (h : MarkNet). IsThere a h.net) (λ h. IsThere b h.net) (λ h k. e.there h.net k) w.marks.items t.marks;
    ready = e.there w.ready t.ready;
    reserves =
        each_weaker (λ (r : ReserveNet). IsThere a r.on × IsThere a r.addr) (λ r. IsThere b r.on × IsThere b r.addr)
        (λ r k. (e.there r.on k.0, e.there r.addr k.1)) w.reserves t.reserves;
    puts =
        each_weaker (λ (x : PutNet). IsThere a x.on × IsThere a x.value) (λ x. IsThere b x.on × IsThere b x.value)
        (λ x k. (e.there x.on k.0, e.there x.value k.1)) w.puts t.puts;
    lettings = each_weaker (λ (x : LettingNet). IsThere a x.on) (λ x. IsThere b x.on) (λ x k. e.there x.on k) w.lettings t.lettings;
    births =
        each_weaker (λ (x : BirthNet). IsThere a x.on × NetsThere a x.args) (λ x. IsThere b x.on × NetsThere b x.args)
        (λ x k. (e.there x.on k.0, there_keeps a b x.args e k.1)) w.births.items t.births;
    asks =
        each_weaker (λ (x : AskNet). IsThere a x.on × IsThere a x.addr) (λ x. IsThere b x.on × IsThere b x.addr)
        (λ x k. (e.there x.on k.0, e.there x.addr k.1)) w.asks t.asks;
    advises =
        each_weaker (λ (x : AdvisingNet). IsThere a x.on × IsThere a x.addr × IsThere a x.value) (λ x. IsThere b x.on × IsThere b x.addr × IsThere b x.value)
        (λ x k. (e.there x.on k.0, e.there x.addr k.1, e.there x.value k.2)) w.advises t.advises;
    guess = there_keeps a b w.guess e t.guess;
    fails = e.there w.fails t.fails;
    barrier = e.there w.barrier t.barrier;
  }

  -- the nets of a walk stay there, with their widths
  pub walk_keep : (p : Pipe) (ws : List ℕ) (w : WalkNets) → IsWalk a p ws w → IsWalk b p ws w
  walk_keep p ws w h = record { there = there_walk w h.there; sized = subst (IsSized p ws) (sym (parts_keep w h.there)) h.sized }

-- ---- marks of locations

mark_step : (c : Circuit) (b : Bool) (x y : Net) (f g : Signal) → Means c x f → Means c y g
    → Means c (if b then x else y) (if b then f else g)
mark_step c true x y f g m n = m
mark_step c false x y f g m n = n

-- the net of the first entry of a location's mark means whether the location has it
pub mark_means : (c : Circuit) (x : Bits) → AreBits c x → (hs : List MarkNet) (k : Mark) (m a : ℕ)
    → Each (λ (h : MarkNet). IsThere c h.net) hs → Means c (mark_net hs x.zero k m a) (mark_of (map (mark_in c) hs) k m a)
mark_means c x bits [] k m a t = bits.zero
mark_means c x bits (h ∷ hs) k m a t =
    mark_step c (same_mark h.mark k && ((h.mem == m) && (h.var == a))) h.net (mark_net hs x.zero k m a) (signal c h.net)
    (mark_of (map (mark_in c) hs) k m a) (record { there = t.0; same = refl }) (mark_means c x bits hs k m a t.1)

width_step : (b : Bool) (f g : Signal) → f.width ≡ 1 → g.width ≡ 1 → (if b then f else g).width ≡ 1
width_step true f g h k = h
width_step false f g h k = k

-- whether a location has a mark is told by 1 bit, where each entry has 1 bit
pub mark_width : (hs : List MarkSignal) (k : Mark) (m a : ℕ) → Each (λ (h : MarkSignal). h.signal.width ≡ 1) hs → (mark_of hs k m a).width ≡ 1
mark_width [] k m a h = refl
mark_width (x ∷ xs) k m a h =
    width_step (same_mark x.mark k && ((x.mem == m) && (x.var == a))) x.signal (mark_of xs k m a) h.0 (mark_width xs k m a h.1)

-- ---- variables

-- a variable has its width in a walk that has its widths
pub var_width : (p : Pipe) (ws : List ℕ) (w : Parts) (x : ℕ) → IsSized p ws w → (signal_at w.vars x).width ≡ slice_index ws x
var_width p ws w x s = sym (width_at w.vars x) ∙ ap (λ l. slice_index l x) s.vars

-- a walk that has its widths has as many variables as widths
pub var_count : (p : Pipe) (ws : List ℕ) (w : Parts) → IsSized p ws w → length w.vars ≡ length ws
var_count p ws w s = sym (length_widths w.vars) ∙ ap length s.vars
