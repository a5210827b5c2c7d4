-- What is known of each lock in the whole netlist.
use Rattle.std.proofs.Common.{◌≡◌, ℕ, ◌+◌, ◌^◌, ◌<◌, ◌≤◌, ◌∙◌, true, false, List, length, refl, sym, ap, ap₂, subst, arith, inl, inr}
use Rattle.std.specs.Prelude.{Option, Some, None, is_some}
use Rattle.std.proofs.lemmas.Bool.{cases_lt, false≢true}
use Rattle.pdl_semantics.specs.Flat.{Mem, Pipe, is_delayed}
use Rattle.pdl_semantics.specs.Stages.{mem_at}
use Rattle.pdl_semantics.specs.SecondWrites.{reserves_twice}
use Rattle.pdl_net.specs.declared.Net.{Net}
use Rattle.pdl_net.specs.Circuit.{Circuit, State, HasReg, HasArray, array_depth}
use Rattle.pdl_net.specs.Signal.{Signal}
use Rattle.pdl_net.specs.Meaning.{signal, IsThere, next_signal, write_signals}
use Rattle.pdl_net.specs.Growth.{Own, Outside, Keeps, ExtendsBut}
use Rattle.pdl_lockapi.specs.declared.LockNets.{LockNets}
use Rattle.pdl_lockapi.specs.Lock.{LockState, start}
use Rattle.pdl_lockapi.specs.Laws.{first_reg, end_reg, first_array, end_array, own, words_of, OwnKept, IsReset, HasImage, RoomLaw, TicketLaw, StepLaw, ReserveSignal, TicketSignal, StepSignals}
use Rattle.pdl_lockapi.specs.Second.{Room2Law, Commit2Law}
use Rattle.pdl_lockapi.specs.Forget.{as_lock}
use Rattle.pdl_law_parts.specs.Walk.{Walk, is_locked, zero_bit}
use Rattle.pdl_law_parts.specs.Views.{View, Gates}
use Rattle.pdl_law_parts.specs.Ports.{Commit, Commits, step_of}
use Rattle.pdl_law_parts.specs.Compiled.{GoesOn}
use Rattle.pdl_law_parts.specs.Places.{comb_place}
use Rattle.pdl_pipe_walk.specs.declared.locks.MemLock.{MemLock}
use Rattle.pdl_pipe_walk.specs.Locked.{Members, some_at, of_lock, kind_in, locks_in, AreLocked}
use Rattle.pdl_pipe_locks.specs.declared.deeds.StageDeeds.{StageDeeds}
use Rattle.pdl_pipe_locks.specs.Lawful.{AreLawful}
use Rattle.pdl_pipe_locks.specs.Deeds.{views_in, moves_in, steps_in, AreOf, AreGatesOf}
use Rattle.pdl_pipe_locks.specs.Ports.{ReleaseSignals}
use Rattle.pdl_pipe_locks.specs.Stepped.{own_of, FitsMemory, IsSteppedMemory, AreStepped, ExtendsLocks, commit_of, commits_in}
use Rattle.pdl_pipe_locks.proofs.PortStages.{same_reserves, same_puts, same_released}
use Rattle.pdl_pipe_locks.proofs.LockGrowth.{Stays, laws_kept, locked_kept, regs_end}
use Rattle.pdl_pipe_locks.proofs.Places.{place_below, own_place, outside_place, image_place}
use Rattle.pdl_pipe_locks.proofs.LockSteps.{fits_kept, stepped_kept}
use Rattle.pdl_word.proofs.Lists.{some_of}

-- the stages of a netlist do to a lock what their nets do
pub step_is : (s : Circuit) (p : Pipe) (ds : List StageDeeds) (squash : Net) (tails : List Net) (vs : ℕ → View)
    (gates : Gates) (goes : ℕ → Signal) (m : ℕ)
    → length ds ≡ length p.stages → m < length p.mems → AreOf s ds vs goes → AreGatesOf s p squash tails gates
    → steps_in s p ds squash tails m ≡ step_of p vs gates goes m
step_is s p ds squash tails vs gates goes m count low of beside =
    let n = length p.stages in
    let moves : (j : ℕ) → j < 0 + n → moves_in s ds j ≡ goes j = λ j u. sym (of.moves j (omega (arith, u, count))) in
    let ended : (j : ℕ) → j < 0 + n → (views_in s ds j).ended ≡ (vs j).ended = λ j u. sym (of.ended j (omega (arith, u, count))) in
    let tickets : (j : ℕ) → j < 0 + n → (views_in s ds j).tickets m ≡ (vs j).tickets m = λ j u. sym (of.tickets j m (omega (arith, u, count))) in
    let twice = reserves_twice m p.stmts in
    let f = steps_in s p ds squash tails m in
    let g = step_of p vs gates goes m in
    let reserves : f.reserves ≡ g.reserves =
    same_reserves m (views_in s ds) vs (moves_in s ds) goes n 0 moves (λ j u. ap (λ (w : Walk). w.reserves) (ended j u)) in
    let puts : f.writes ≡ g.writes = same_puts twice m (views_in s ds) vs (moves_in s ds) goes n 0 moves tickets ended in
    let released = same_released twice m (views_in s ds) vs (moves_in s ds) goes n 0 moves ended in
    let release : f.release ≡ g.release = ap (λ (t : ReleaseSignals). t.first) released in
    let release2 : f.release2 ≡ g.release2 = ap (λ (t : ReleaseSignals). t.second) released in
    let F =
    λ (r : List ReserveSignal) (w : List TicketSignal)
    (x u y z : Signal). (let f : StepSignals = record { reserves = r; writes = w; release = x; release2 = u; squash = y; tail = z } in f) in
    let same : F f.reserves f.writes f.release f.release2 f.squash f.tail ≡ F g.reserves g.writes g.release g.release2 g.squash g.tail =
    cc (reserves, puts, release, release2, sym beside.squash, sym (beside.tail m low)) in
    same

-- a commit has the widths of a memory
abbrev pub CommitFits : Mem → Commit → Type 0
CommitFits mem y = (y.enable.width ≡ 1) × (2 ^ y.addr.width ≡ mem.depth) × (y.value.width ≡ mem.width)

-- so have both commits of a cycle
abbrev pub BothFit : Mem → Commits → Type 0
BothFit mem y = CommitFits mem y.first × CommitFits mem y.second

-- the locks' signals as they are in the circuit a, their steps begun in s and made in b, and the whole netlist c
module _ {T : Type 0} (l : Members T) (stays : Stays l) (p : Pipe) (xs : List (Option (MemLock T)))
    (ds : List StageDeeds) (squash : Net) (tails : List Net) (ns : List (Option LockNets)) (vs : ℕ → View)
    (gates : Gates) (goes : ℕ → Signal) (a s b c : Circuit)
    (locked : AreLocked l a p xs) (lawful : AreLawful l a p xs) (count : length ds ≡ length p.stages)
    (of : AreOf s ds vs goes) (beside : AreGatesOf s p squash tails gates)
    (stepped : AreStepped l b p (steps_in s p ds squash tails) xs ns (length p.mems))
    (whole : Keeps a c) (after : Keeps b c) (m : ℕ) (low : m < length p.mems) (kept : OwnKept (own_of (some_at xs m)) b c) where
  -- the laws of its nets
  goes_on_of : (x : MemLock T) (n : LockNets) → some_at xs m ≡ Some x → some_at ns m ≡ Some n
      → GoesOn p (locks_in l p a xs) c vs gates goes (own_of (some_at xs m)) (commits_in c ns m) m
  goes_on_of x n e q =
      let ls = locks_in l p a xs in
      let it = (locked_kept l a c p xs whole stays locked).locks m x low e in
      let has_array = (locked_kept l a c p xs whole stays locked).has_array m low in
      let law = (laws_kept l a c p xs whole locked lawful).laws m x low e in
      let own_is : own x.regs ≡ own_of (some_at xs m) = ap own_of (sym e) in
      let stands : l.stands x.lock x.regs ≡ ls.stands m = ap (of_lock (λ (y : MemLock T). l.stands y.lock y.regs) (λ s y. Unit {0})) (sym e) in
      let size : l.size x.lock ≡ ls.size m = ap (of_lock (λ (y : MemLock T). l.size y.lock) 1) (sym e) in
      let bits : l.tickets x.lock ≡ ls.bits m = ap (of_lock (λ (y : MemLock T). l.tickets y.lock) 1) (sym e) in
      let kind : l.kind x.lock ≡ ls.kind m = ap (kind_in l) (sym e) in
      let room : signal c x.regs.room ≡ ls.room m =
      whole.kept x.regs.room (locked.locks m x low e).room.there ∙ ap (of_lock (λ (y : MemLock T). signal a y.regs.room) zero_bit) (sym e) in
      let room2 : signal c x.regs.room2 ≡ ls.room2 m =
      whole.kept x.regs.room2 (locked.locks m x low e).room2.there ∙ ap (of_lock (λ (y : MemLock T). signal a y.regs.room2) zero_bit) (sym e) in
      let ticket : signal c x.regs.ticket ≡ ls.ticket m =
      whole.kept x.regs.ticket (locked.locks m x low e).ticket.there ∙ ap (of_lock (λ (y : MemLock T). signal a y.regs.ticket) zero_bit) (sym e) in
      let commit : commit_of c (Some n) ≡ commits_in c ns m = ap (commit_of c) (sym q) in
      let f = steps_in s p ds squash tails m in
      let same : f ≡ step_of p vs gates goes m = step_is s p ds squash tails vs gates goes m count low of beside in
      let own_kept : OwnKept (own x.regs) b c = subst (λ (o : Own). OwnKept o b c) (sym own_is) kept in
      let made_step = stepped_kept l b c (mem_at p m) f x n after own_kept ((stepped.each m low).lock x n e q) in
      let S1 : (State → LockState → Type 0) → Type 0 =
      λ st. StepLaw st (l.size x.lock) (l.tickets x.lock) (own x.regs) c f (signal c n.commit) (signal c n.addr) (signal c n.value) in
      let S2 : ℕ → Type 0 = λ k. StepLaw (ls.stands m) k (l.tickets x.lock) (own x.regs) c f (signal c n.commit) (signal c n.addr) (signal c n.value) in
      let S3 : ℕ → Type 0 = λ k. StepLaw (ls.stands m) (ls.size m) k (own x.regs) c f (signal c n.commit) (signal c n.addr) (signal c n.value) in
      let S4 : StepSignals → Type 0 =
      λ g. StepLaw (ls.stands m) (ls.size m) (ls.bits m) (own x.regs) c g (signal c n.commit) (signal c n.addr) (signal c n.value) in
      let S5 : Commits → Type 0 =
      λ y. StepLaw (ls.stands m) (ls.size m) (ls.bits m) (own x.regs) c (step_of p vs gates goes m) y.first.enable y.first.addr y.first.value in
      let C1 : (State → LockState → Type 0) → Type 0 =
      λ st. Commit2Law st (l.size x.lock) (l.tickets x.lock) f (signal c n.commit2) (signal c n.addr2) (signal c n.value2) in
      let C2 : ℕ → Type 0 = λ k. Commit2Law (ls.stands m) k (l.tickets x.lock) f (signal c n.commit2) (signal c n.addr2) (signal c n.value2) in
      let C3 : ℕ → Type 0 = λ k. Commit2Law (ls.stands m) (ls.size m) k f (signal c n.commit2) (signal c n.addr2) (signal c n.value2) in
      let C4 : StepSignals → Type 0 =
      λ g. Commit2Law (ls.stands m) (ls.size m) (ls.bits m) g (signal c n.commit2) (signal c n.addr2) (signal c n.value2) in
      let C5 : Commits → Type 0 =
      λ y. Commit2Law (ls.stands m) (ls.size m) (ls.bits m) (step_of p vs gates goes m) y.second.enable y.second.addr y.second.value in
      let R1 : (State → LockState → Type 0) → Type 0 = λ st. RoomLaw st (l.size x.lock) (signal c x.regs.room) in
      let R2 : ℕ → Type 0 = λ k. RoomLaw (ls.stands m) k (signal c x.regs.room) in
      let R3 : Signal → Type 0 = λ g. RoomLaw (ls.stands m) (ls.size m) g in
      let D1 : (State → LockState → Type 0) → Type 0 = λ st. Room2Law st (l.size x.lock) (signal c x.regs.room2) in
      let D2 : ℕ → Type 0 = λ k. Room2Law (ls.stands m) k (signal c x.regs.room2) in
      let D3 : Signal → Type 0 = λ g. Room2Law (ls.stands m) (ls.size m) g in
      let T1 : (State → LockState → Type 0) → Type 0 = λ st. TicketLaw st (l.tickets x.lock) (signal c x.regs.ticket) in
      let T2 : ℕ → Type 0 = λ k. TicketLaw (ls.stands m) k (signal c x.regs.ticket) in
      let T3 : Signal → Type 0 = λ g. TicketLaw (ls.stands m) (ls.bits m) g in
      let made : GoesOn p ls c vs gates goes (own x.regs) (commits_in c ns m) m = record {
        kind = lawful.kinds m x low e ∙ ap₂ as_lock kind size;
        regs = law.regs;
        arrays = λ i lo hi. (let u = own_place (mem_at p m) (comb_place p m) x.regs.array it.array i lo hi in subst (HasArray c) (sym u.1) (has_array u.0));
        room = subst R3 room (subst R2 size (subst R1 stands law.room));
        room2 = subst D3 room2 (subst D2 size (subst D1 stands law.room2));
        ticket = subst T3 ticket (subst T2 bits (subst T1 stands law.ticket));
        step = subst S5 commit (subst S4 same (subst S3 bits (subst S2 size (subst S1 stands made_step.law))));
        second = subst C5 commit (subst C4 same (subst C3 bits (subst C2 size (subst C1 stands made_step.law2))));
      } in
      subst (λ (o : Own). GoesOn p ls c vs gates goes o (commits_in c ns m) m) own_is made

  -- the lock of a memory has in the whole netlist what a cycle rests on
  pub goes_on : is_locked p m ≡ true → GoesOn p (locks_in l p a xs) c vs gates goes (own_of (some_at xs m)) (commits_in c ns m) m
  goes_on h =
      let (x, e) = some_of (some_at xs m) (locked.locked m low ∙ h) in
      let (n, q) = some_of (some_at ns m) ((stepped.each m low).has ∙ locked.locked m low ∙ h) in
      goes_on_of x n e q

  -- it stands for the lock at its start where its registers have their reset values, and its array, where it has one, the image
  starts_of : (x : MemLock T) → some_at xs m ≡ Some x → (t : State) (image : List ℕ)
      → IsReset c (own_of (some_at xs m)).from (own_of (some_at xs m)).to t → length image ≡ (mem_at p m).depth
      → (is_delayed (mem_at p m).kind ≡ false → HasImage ((locks_in l p a xs).kind m) (Some (comb_place p m)) t image)
      → (locks_in l p a xs).stands m t (start image)
  starts_of x e t image reset long words =
      let ls = locks_in l p a xs in
      let it = locked.locks m x low e in
      let law = (laws_kept l a c p xs whole locked lawful).laws m x low e in
      let stands : l.stands x.lock x.regs ≡ ls.stands m = ap (of_lock (λ (y : MemLock T). l.stands y.lock y.regs) (λ s y. Unit {0})) (sym e) in
      let kind : l.kind x.lock ≡ ls.kind m = ap (kind_in l) (sym e) in
      let reset_here : IsReset c (first_reg x.regs) (end_reg x.regs) t = subst (λ (o : Own). IsReset c o.from o.to t) (ap own_of e) reset in
      let image_here : HasImage (l.kind x.lock) x.regs.array t image =
      image_place (mem_at p m)
      (comb_place p m) x.regs.array it.array (l.kind x.lock) t image (λ u. subst (λ k. HasImage k (Some (comb_place p m)) t image) (sym kind) (words u)) in
      let P : (State → LockState → Type 0) → Type 0 = λ st. st t (start image) in
      subst P stands (law.start.starts t image reset_here (long ∙ sym it.bits) image_here)

  -- with its registers at reset, and the image in its array where it has one, a memory's lock stands for the lock at its start
  pub starts : is_locked p m ≡ true → (t : State) (image : List ℕ)
      → IsReset c (own_of (some_at xs m)).from (own_of (some_at xs m)).to t → length image ≡ (mem_at p m).depth
      → (is_delayed (mem_at p m).kind ≡ false → HasImage ((locks_in l p a xs).kind m) (Some (comb_place p m)) t image)
      → (locks_in l p a xs).stands m t (start image)
  starts h = let (x, e) = some_of (some_at xs m) (locked.locked m low ∙ h) in starts_of x e

  -- the array of a locked memory that answers at once has as many words as its lock keeps
  pub deep : is_locked p m ≡ true → is_delayed (mem_at p m).kind ≡ false
      → array_depth c (comb_place p m) ≡ words_of ((locks_in l p a xs).kind m) (mem_at p m).depth
  deep h once =
      let (x, e) = some_of (some_at xs m) (locked.locked m low ∙ h) in
      (laws_kept l a c p xs whole locked lawful).deep m x low once e ∙ ap (λ k. words_of k (mem_at p m).depth) (ap (kind_in l) (sym e))

  -- the lock of a memory makes its step in the whole netlist, by what the netlist's stages do
  pub stepped_here : IsSteppedMemory l c (mem_at p m) (step_of p vs gates goes m) (some_at xs m) (some_at ns m)
  stepped_here =
      let own_kept : (x : MemLock T) → some_at xs m ≡ Some x → OwnKept (own x.regs) b c = λ x e. subst (λ (o : Own). OwnKept o b c) (ap own_of e) kept in
      let f = steps_in s p ds squash tails m in
      subst (λ (g : StepSignals). IsSteppedMemory l c (mem_at p m) g (some_at xs m) (some_at ns m))
      (step_is s p ds squash tails vs gates goes m count low of beside)
      (record {
        has = (stepped.each m low).has;
        lock = λ x n e q. stepped_kept l b c (mem_at p m) f x n after (own_kept x e) ((stepped.each m low).lock x n e q);
      })

  fits_nets : (mem : Mem) (commit addr value : Net) → FitsMemory b mem commit addr value
      → CommitFits mem (record { enable = signal c commit; addr = signal c addr; value = signal c value })
  fits_nets mem commit addr value h =
      let now = fits_kept b c mem commit addr value after h in
      (now.commit.width, now.addr_reach, now.value.width)

  -- what the memory commits has the memory's widths
  fits_of : (x : MemLock T) (n : LockNets) → some_at xs m ≡ Some x → some_at ns m ≡ Some n
      → BothFit (mem_at p m) (commits_in c ns m)
  fits_of x n e q =
      let it = (stepped.each m low).lock x n e q in
      let here : BothFit (mem_at p m) (commit_of c (Some n)) =
      (fits_nets (mem_at p m) n.commit n.addr n.value it.nets, fits_nets (mem_at p m) n.commit2 n.addr2 n.value2 it.nets2) in
      subst (BothFit (mem_at p m)) (ap (commit_of c) (sym q)) here

  -- the condition of each of a memory's commits has 1 bit, its address reaches each word and no more, and its value has a word's width
  pub commit_fits : is_locked p m ≡ true → BothFit (mem_at p m) (commits_in c ns m)
  commit_fits h =
      let (x, e) = some_of (some_at xs m) (locked.locked m low ∙ h) in
      let (n, q) = some_of (some_at ns m) ((stepped.each m low).has ∙ locked.locked m low ∙ h) in
      fits_of x n e q

  -- the words of a memory's commits are those of nets
  pub commit_words : is_locked p m ≡ true
      → ((w : Net) × IsThere c w × (signal c w ≡ (commits_in c ns m).first.value)) × ((w : Net) × IsThere c w × (signal c w ≡ (commits_in c ns m).second.value))
  commit_words h =
      let (x, e) = some_of (some_at xs m) (locked.locked m low ∙ h) in
      let (n, q) = some_of (some_at ns m) ((stepped.each m low).has ∙ locked.locked m low ∙ h) in
      let it = (stepped.each m low).lock x n e q in (
        (n.value, after.there n.value it.nets.value.there, ap (λ (o : Option LockNets). (commit_of c o).first.value) (sym q)),
        (n.value2, after.there n.value2 it.nets2.value.there, ap (λ (o : Option LockNets). (commit_of c o).second.value) (sym q)),
      )

-- ---- what the steps leave as it was

module _ {T : Type 0} (l : Members T) (a : Circuit) (p : Pipe) (xs : List (Option (MemLock T)))
    (locked : AreLocked l a p xs) (lawful : AreLawful l a p xs) where
  -- the registers of each lock end where those of its circuit end, at the latest
  pub locks_end : (m : ℕ) → m < length p.mems → (own_of (some_at xs m)).to ≤ length a.regs
  locks_end m low = at (some_at xs m) refl
    where
      at : (o : Option (MemLock T)) → some_at xs m ≡ o → (own_of o).to ≤ length a.regs
      at None e = omega arith
      at (Some x) e = regs_end (l.stands x.lock x.regs) (l.kind x.lock) (l.size x.lock) (l.tickets x.lock) a x.regs (lawful.laws m x low e)

  -- registers after those of the locks take next what they took before the steps
  pub nexts_after : (b c : Circuit) (k : ℕ) → ExtendsLocks xs (length p.mems) b c → HasReg b k → length a.regs ≤ k → next_signal c k ≡ next_signal b k
  nexts_after b c k x h low = x.nexts k h (λ m u. let d = locks_end m u in inr (omega (arith, d, low)))

  -- the array of a memory without lock keeps its write ports
  pub plain_writes : (b c : Circuit) (m : ℕ) → Keeps a b → ExtendsLocks xs (length p.mems) b c
      → is_delayed (mem_at p m).kind ≡ false → m < length p.mems → is_locked p m ≡ false
      → write_signals c (comb_place p m) ≡ write_signals b (comb_place p m)
  plain_writes b c m k x once low h =
      x.writes (comb_place p m) (k.has_array (comb_place p m) (locked.has_array m low once)) (λ j u. outside j u (some_at xs j) refl)
    where
      outside : (j : ℕ) → j < length p.mems → (o : Option (MemLock T)) → some_at xs j ≡ o → Outside (own_of o).first (own_of o).last (comb_place p m)
      outside j u None f = inr (omega arith)
      outside j u (Some y) f =
          outside_place (mem_at p j) (comb_place p j) y.regs.array (locked.locks j y u f).array (comb_place p m)
          (λ v. elim (cases_lt m j) [
            | inl lt ↦ inl (place_below p m j lt (omega (arith, u)) once)
            | inr ge ↦ elim (cases_lt j m) [
              | inl lt ↦ inr (let n = place_below p j m lt (omega (arith, low)) v in omega (arith, n))
              | inr le ↦ let same : j ≡ m = omega (arith, ge, le) in
                  absurd (false≢true (sym h ∙ sym (locked.locked m low) ∙ ap is_some (ap (some_at xs) (sym same) ∙ f)))
            ]
          ])

  -- a lock stays as it is while only registers after those of the locks change
  pub own_after : (m : ℕ) (b c : Circuit) (o : Own) → m < length p.mems → Keeps a b → ExtendsBut o b c
      → length a.regs ≤ o.from → o.last ≤ o.first → OwnKept (own_of (some_at xs m)) b c
  own_after m b c o low k x from none = at (some_at xs m) refl
    where
      at : (y : Option (MemLock T)) → some_at xs m ≡ y → OwnKept (own_of y) b c
      at None e = record {
        has_reg = λ i lo hi. absurd (omega (arith, hi));
        nexts = λ i lo hi. absurd (omega (arith, hi));
        has_array = λ i lo hi. absurd (omega (arith, hi));
        writes = λ i lo hi. absurd (omega (arith, hi));
      }
      at (Some y) e =
          let law = lawful.laws m y low e in
          let it = locked.locks m y low e in
          let ends = regs_end (l.stands y.lock y.regs) (l.kind y.lock) (l.size y.lock) (l.tickets y.lock) a y.regs law in
          let there : (i : ℕ) → first_array y.regs.array ≤ i → i < end_array y.regs.array → HasArray a i = λ i lo hi.
          let u = own_place (mem_at p m) (comb_place p m) y.regs.array it.array i lo hi in
          subst (HasArray a) (sym u.1) (locked.has_array m low u.0) in
          record {
            has_reg = λ i lo hi. x.has_reg i (k.has_reg i (law.regs i lo hi));
            nexts = λ i lo hi. x.nexts i (k.has_reg i (law.regs i lo hi)) (inl (omega (arith, hi, ends, from)));
            has_array = λ i lo hi. x.has_array i (k.has_array i (there i lo hi));
            writes = λ i lo hi. x.writes i (k.has_array i (there i lo hi)) (outside i);
          }
        where
          outside : (i : ℕ) → Outside o.first o.last i
          outside i = elim (cases_lt i o.first) [ inl lt ↦ inl lt | inr ge ↦ inr (omega (arith, ge, none)) ]
