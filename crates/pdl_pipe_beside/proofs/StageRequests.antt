-- What the stages ask of delayed memories, as nets.
use Rattle.std.proofs.Common.{◌≡◌, ℕ, zero, suc, ◌+◌, ◌-◌, ◌^◌, ◌<◌, ◌==◌, ◌∙◌, Bool, true, false, List, [], ◌∷◌, ◌++◌, length, length-append, map, refl, sym, ap, ap₂, subst, arith}
use borrow.Author.Count.{below_more}
use Rattle.std.specs.Prelude.{Option, Some, if◌then◌else◌, slice_index_or}
use Rattle.pdl_word.specs.Words as words
use Rattle.pdl_semantics.specs.Flat.{Mem, Pipe}
use Rattle.pdl_semantics.specs.Stages.{mem_at, plain_mem}
use Rattle.pdl_form.specs.Form.{Form}
use Rattle.pdl_form_types.specs.Stmts.{IsTypedMem, AreTypedMems}
use Rattle.pdl_net.specs.Circuit.{Circuit, State}
use Rattle.pdl_net.specs.Signal.{Signal, const_signal, mux_signal, mux_value, const_value}
use Rattle.pdl_net.specs.Meaning.{IsThere, Means, signal}
use Rattle.pdl_net.specs.Growth.{Keeps}
use Rattle.pdl_net.proofs.KeptWidths.{width_keeps}
use Rattle.pdl_machine_inflight.specs.Readings.{Reading, reading}
use Rattle.pdl_law_parts.specs.Walk.{Ask, both}
use Rattle.pdl_law_parts.specs.Views.{View}
use Rattle.pdl_pipe_exprs.specs.Nets.{signal_at}
use Rattle.pdl_law_sides.specs.Sides.{asks_memory, asked_address}
use Rattle.pdl_law_sides.specs.WholeNetlist.{request_of}
use Rattle.pdl_pipe_walk.specs.declared.nets.AskNet.{AskNet}
use Rattle.pdl_pipe_walk.specs.Parts.{ask_in}
use Rattle.pdl_pipe_walk.specs.Sized.{IsSizedAsk}
use Rattle.pdl_pipe_walk.specs.Locked.{some_at}
use Rattle.pdl_pipe_walk.proofs.Lists.{map_each, some_before, some_last}
use Rattle.pdl_word.specs.Each.{Each}
use Rattle.pdl_pipe_beside.specs.declared.ends.StageEnd.{StageEnd}
use Rattle.pdl_pipe_beside.specs.declared.outside.RequestNets.{RequestNets}
use Rattle.pdl_pipe_beside.specs.Ends.{no_view, view_in, ends_in, moves_in, IsEnd, AreEnds}
use Rattle.pdl_pipe_beside.specs.Requests.{address_from, IsAddressNet, IsRequest, HasRequest, AreRequests}
use Rattle.pdl_pipe_beside.proofs.EndGrowth.{view_at, move_at, views_same, moves_same}
use Rattle.pdl_law_parts.proofs.WellFormedMems.{power_one}

-- ---- powers of two

-- ---- addresses

-- one of some typed memories, by its number, is typed
pub typed_at : (ms : List Mem) (m : ℕ) → m < length ms → AreTypedMems ms → IsTypedMem (slice_index_or ms m plain_mem)
typed_at [] m l h = absurd (omega (arith, l))
typed_at (x ∷ xs) zero l h = h.0
typed_at (x ∷ xs) (suc m) l h = typed_at xs m (omega (arith, l)) h.1

-- the last address may be a zero of any width
pub address_value : (m w : ℕ) (moves : Signal) (qs : List Ask) (s : State)
    → (address_from m moves (const_signal w 0) qs).value s ≡ (asked_address m moves qs).value s
unfolding mux_value const_value
address_value m w moves [] s = refl
address_value m w moves (q ∷ qs) s = at (q.mem == m) (address_value m w moves qs s)
  where
    at : (b : Bool) → (address_from m moves (const_signal w 0) qs).value s ≡ (asked_address m moves qs).value s
        → (if b then mux_signal (both moves q.on) q.addr (address_from m moves (const_signal w 0) qs) else address_from m moves (const_signal w 0) qs).value s
        ≡ (if b then mux_signal (both moves q.on) q.addr (asked_address m moves qs) else asked_address m moves qs).value s
    at true e = ap (λ v. words.mux ((both moves q.on).value s) (q.addr.value s) v) e
    at false e = e

addresses_are : (c : Circuit) (p : Pipe) (m w : ℕ)
    → 2 ^ w ≡ (mem_at p m).depth → (qs : List AskNet) → Each (λ (q : AskNet). IsThere c q.on × IsThere c q.addr) qs
    → Each (IsSizedAsk p) (map (ask_in c) qs) → Each (IsAddressNet c m w) qs
addresses_are c p m w e [] t s = tt
addresses_are c p m w e (q ∷ qs) t s =
    let here : IsAddressNet c m w q = record {
      on = record { there = t.0.0; width = s.0.1 };
      addr_there = t.0.1;
      addr_wide = λ same. power_one (signal c q.addr).width w (s.0.2 ∙ ap (λ i. (mem_at p i).depth) same ∙ sym e);
    } in
    (here, addresses_are c p m w e qs t.1 s.1)

-- a memory of 2 to the w words is asked by the stages with addresses of w bits
pub end_addresses : (c : Circuit) (f : Form) (e : StageEnd) (m w : ℕ)
    → 2 ^ w ≡ (mem_at f.pipe m).depth → IsEnd c f e → Each (IsAddressNet c m w) e.ended.now.asks
end_addresses c f e m w depth h = addresses_are c f.pipe m w depth e.ended.now.asks h.walk.there.asks h.walk.sized.asks

-- the requests of a stage are the same signals while the circuit grows
pub asks_same : (a b : Circuit) (m w : ℕ) (qs : List AskNet) → Keeps a b → Each (IsAddressNet a m w) qs
    → map (ask_in b) qs ≡ map (ask_in a) qs
asks_same a b m w qs k h =
    map_each (ask_in b) (ask_in a) (IsAddressNet a m w)
    (λ q x. ap₂ (λ f g. record { mem = q.mem; var = q.var; on = f; addr = g }) (k.kept q.on x.on.there) (k.kept q.addr x.addr_there)) qs h

-- ---- one request

module _ (a c : Circuit) (p : Pipe) (es : List StageEnd) (m w : ℕ) (r : Reading) (e : StageEnd) (x : RequestNets)
    (is : reading p m ≡ Some r) (low : r.stage < length es) (at : e ≡ slice_index_or es r.stage e)
    (enable : Means c x.enable (asks_memory m (signal a e.moves) (map (ask_in a) e.ended.now.asks)))
    (enable_one : (signal c x.enable).width ≡ 1)
    (addr : Means c x.addr (address_from m (signal a e.moves) (const_signal w 0) (map (ask_in a) e.ended.now.asks)))
    (wide : (signal c x.addr).width ≡ w) (depth : 2 ^ w ≡ (mem_at p m).depth) where
  moves_is : signal a e.moves ≡ moves_in a es r.stage
  moves_is = move_at a es r.stage e low at

  view_is : view_in a e ≡ ends_in a es r.stage
  view_is = sym (view_at a es r.stage e low at)

  -- the nets of a memory that is read delayed have the values of what the reading stage asks
  pub request_some : IsRequest a c p es m x
  request_some =
      let P : Option Reading → Type 0 = λ o. signal c x.enable ≡ (request_of (ends_in a es) (moves_in a es) m o).enable in
      let Q : Option Reading → Type 0 = λ o. (s : State) → (signal c x.addr).value s ≡ (request_of (ends_in a es) (moves_in a es) m o).addr.value s in
      let value : (s : State) → (signal c x.addr).value s ≡ (asked_address m (moves_in a es r.stage) (ends_in a es r.stage).ended.asks).value s = λ s.
      ap (λ (g : Signal). g.value s) addr.same
      ∙ address_value m w (signal a e.moves) (map (ask_in a) e.ended.now.asks) s
      ∙ ap₂ (λ (g : Signal) (v : View). (asked_address m g v.ended.asks).value s) moves_is view_is in
      record {
        enable_bit = record { there = enable.there; width = enable_one };
        enable = subst P (sym is) (enable.same ∙ ap₂ (λ (g : Signal) (v : View). asks_memory m g v.ended.asks) moves_is view_is);
        addr_there = addr.there;
        addr = subst Q (sym is) value;
        reach = ap (λ n. 2 ^ n) wide ∙ depth;
      }

-- ---- all requests

request_kept : (a b c : Circuit) (p : Pipe) (es : List StageEnd) (m : ℕ) (x : RequestNets) → Keeps b c
    → IsRequest a b p es m x → IsRequest a c p es m x
request_kept a b c p es m x k h =
    let e = k.kept x.enable h.enable_bit.there in
    let g = k.kept x.addr h.addr_there in
    record {
      enable_bit = width_keeps b c x.enable 1 k h.enable_bit;
      enable = e ∙ h.enable;
      addr_there = k.there x.addr h.addr_there;
      addr = λ s. ap (λ (z : Signal). z.value s) g ∙ h.addr s;
      reach = ap (λ (z : Signal). 2 ^ z.width) g ∙ h.reach;
    }

-- by what the stages were at first
request_as : (a b c : Circuit) (f : Form) (es : List StageEnd) (m : ℕ) (x : RequestNets) → Keeps a b → AreEnds a f es
    → IsRequest b c f.pipe es m x → IsRequest a c f.pipe es m x
request_as a b c f es m x k ends h =
    let p = f.pipe in
    let same =
    ap₂ (λ vs ms. request_of (λ j. slice_index_or vs j no_view) (λ j. signal_at ms j) m (reading p m))
    (views_same a b k f es ends) (moves_same a b k f es ends) in
    record {
      enable_bit = h.enable_bit;
      enable = h.enable ∙ ap (λ q. q.enable) same;
      addr_there = h.addr_there;
      addr = λ s. h.addr s ∙ ap (λ q. q.addr.value s) same;
      reach = h.reach;
    }

-- with the request of one memory more the first n + 1 memories have theirs
pub requests_more : (a b c : Circuit) (f : Form) (es : List StageEnd) (xs : List (Option RequestNets)) (o : Option RequestNets) (n : ℕ)
    → Keeps a b → Keeps b c → AreEnds a f es → HasRequest b c f.pipe es n o → AreRequests a b f.pipe es xs n
    → AreRequests a c f.pipe es (xs ++ o ∷ []) (n + 1)
requests_more a b c f es xs o n k l ends new h =
    let P = λ (m : ℕ) (q : Option RequestNets). HasRequest a c f.pipe es m q in
    let here : P n o = record { some = new.some; asks = λ x e. request_as a b c f es n x k ends (new.asks x e) } in
    record {
      count = length-append xs (o ∷ []) ∙ ap (λ i. i + 1) h.count;
      each = below_more (λ m. P m (some_at (xs ++ o ∷ []) m)) n
          (λ m lt. subst (P m) (sym (some_before xs o m (omega (arith, lt, h.count))))
          (record { some = (h.each m lt).some; asks = λ x e. request_kept a b c f.pipe es m x l ((h.each m lt).asks x e) }))
          (subst (P n) (sym (some_last xs o n h.count)) here);
    }
