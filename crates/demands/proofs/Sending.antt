-- A finished walk has handed out every block. The invariant: where a walk is open at a place after a list of calls, the messages that it has sent are the
-- blocks before that place, as the routine has them by their vips, each as it stood when it was handed out. Every call keeps it, since an edit that an open
-- walk allows keeps the vips before its place; and where next says end, the place is the number of blocks.
-- Assumes nothing.
use mathlib.Core.Path.{◌≡◌, refl, sym, ap, ◌∙◌}
use mathlib.Core.Bool.{Bool, true, false}
use mathlib.Core.List.{List, [], ◌∷◌, ◌++◌}
use Prim.Native.Nat.{ℕ, zero, suc, ◌-◌, ◌≤◌, ◌<◌}
use native.Mathlib.Omega.{arith}
use lib.ListN.{length, take, get_or, get_or-map, length-map}
use lib.Seq.{take-suc, take-length}
use lib.Dec.{ltb, eqb}
use borrow.Author.Tests.{ltb-true, ltb-false, lt-ltb, eqb-true, ne_eqb}
use Rattle.fields.specs.Bytes.{Bytes}
use Rattle.fields.specs.Lists.{choose, Each}
use Rattle.fields.specs.Outcome.{refused, accepted, refuse_if}
use Rattle.pod.specs.Values.{BasicBlock, Routine}
use Rattle.pod.specs.Blocks.{vips, repeats}
use Rattle.pod.specs.Written.{block_bytes}
use Rattle.laws.proofs.Sizes.{block-least}
use Rattle.machine.specs.Edits.{empty_block, block_at, Lengths, lengths}
use Rattle.machine.specs.Walk.{walk_start, walk_next, walk_abandon, closed, Part, no_part, block_part, hand_out, walked_on}
use Rattle.machine.specs.Machine.{Call, edit, undo, walking, permit, Sendable, Answer, Machine, start, machine_step, machine_run}
use Rattle.machine.specs.Book.{State, held, step}
use Rattle.machine.proofs.Held.{held-sound}
use Rattle.machine.proofs.Calls.{walk-done, next_permitted}
use Rattle.machine.proofs.Keeps.{did}
use Rattle.machine.proofs.Walks.{count, below-fits}
use Rattle.machine.proofs.Stand.{part-is}
use Rattle.machine.proofs.Simulation.{Sim, step_sim}
use Rattle.demands.specs.Demand3.{Opening, fresh, machine_after, next_answer, is_accepted}
use Rattle.demands.specs.Sending.{cut, Message, is_end, receive, received, sent, blocks_after, Stood, AllSent, HandsBlock, Sending}
use Rattle.demands.proofs.Openings.{small, journal_small, fresh-sim}
use Rattle.demands.proofs.Stacks.{run-append, refused-same, edit-made, walk-made, undo-walk}
use Rattle.demands.proofs.Demand3.{simulated}
use Rattle.demands.proofs.Vips.{vip-there, place_is, edit-before}

-- next and abandon are allowed only where a walk is open
was_open : (n : ℕ) → refuse_if (eqb n 0) 21 ≡ accepted tt → n ≡ suc (n - 1)
unfolding refuse_if choose
was_open zero q = cc
was_open (suc n) q = omega arith

-- what is refused adds nothing
receive-refused : (c : Call) (a : Answer) (earlier : List Call) (image : List ℕ) (got : List Message) → is_accepted a ≡ false → receive c a earlier image got ≡ got
receive-refused c (accepted a) earlier image got h = cc
receive-refused (edit e) (refused k) earlier image got h = refl
receive-refused undo (refused k) earlier image got h = refl
receive-refused (walking walk_start) (refused k) earlier image got h = refl
receive-refused (walking walk_next) (refused k) earlier image got h = refl
receive-refused (walking walk_abandon) (refused k) earlier image got h = refl

-- next says end only where it is accepted, and no block is left
end-accepted : (a : Answer) → is_end a ≡ true → is_accepted a ≡ true
end-accepted (accepted a) h = refl
end-accepted (refused k) h = h

end_late : (r : Routine) (q : ℕ) → eqb (hand_out r q).0.len 0 ≡ true → count r ≤ q
unfolding hand_out choose
end_late r q = go (ltb q (count r)) refl
  where
    go : (t : Bool) → ltb q (count r) ≡ t → eqb (choose {A = Part × ℕ} t (block_part r q, suc (suc q)) (no_part, 0)).0.len 0 ≡ true → count r ≤ q
    go true e h = absurd (omega (arith, eqb-true (length (block_bytes (block_at q r.explored_blocks))) 0 h, block-least (block_at q r.explored_blocks)))
    go false e h = ltb-false q (count r) e

module _ (o : Opening) where
  abbrev lent : Lengths
  lent = lengths o.image o.journal

  -- one message more
  sent_snoc : (vs : List ℕ) (ms : List Message) (v : ℕ) (m : Message) → AllSent o vs ms → Stood o v m → AllSent o (vs ++ (v ∷ [])) (ms ++ (m ∷ []))
  sent_snoc [] [] v m a s = (s, tt)
  sent_snoc [] (n ∷ ms) v m a s = elim a [ ]
  sent_snoc (w ∷ vs) [] v m a s = elim a [ ]
  sent_snoc (w ∷ vs) (n ∷ ms) v m a s = (a.0, sent_snoc vs ms v m a.1 s)

  -- the messages of a walk that is open, at a place of a machine
  abbrev SoFar : Machine → List Message → Type 0
  SoFar m got = (p : ℕ) → m.walk ≡ suc p → AllSent o (take p (vips m.now.explored_blocks)) got

  none_open : (m : Machine) (got : List Message) → m.walk ≡ closed → SoFar m got
  none_open m got z p e = absurd (omega arith)

  -- one call more, after the calls `earlier`
  module _ (earlier : List Call) (s : State) (i : Sim lent o.rates (machine_after o earlier) s) (got : List Message) (g : SoFar (machine_after o earlier) got) where
    abbrev before : Machine
    before = machine_after o earlier

    abbrev blocks : List BasicBlock
    blocks = before.now.explored_blocks

    -- the message of the block at a place
    abbrev message : ℕ → Message
    message q = record { earlier = earlier; bytes = cut (block_part before.now q) s.image }

    stood : (q : ℕ) → q < length blocks → Stood o (block_at q blocks).vip (message q)
    stood q l =
        let e = place_is q blocks l i.holds.blocks.distinct in
        record {
          there = vip-there q blocks l;
          bytes = ap (λ x. cut (block_part before.now q) x.image) i.is ∙ part-is lent.image before.now q l
              ∙ ap (λ p. block_bytes (block_at p blocks)) (sym e);
        }

    -- at a place with a block, the messages and one more
    sent_one : (q : ℕ) → before.walk ≡ suc q → q < length blocks → AllSent o (take (suc q) (vips blocks)) (got ++ (message q ∷ []))
    sent_one q e l =
        let k : q < length (vips blocks) = omega (arith, length-map blocks (λ b. b.vip)) in
        let w : get_or (vips blocks) q 0 ≡ (block_at q blocks).vip = get_or-map (λ b. b.vip) blocks q (empty_block 0) in
        rw (take-suc (vips blocks) q 0 k, w) (sent_snoc (take q (vips blocks)) got (block_at q blocks).vip (message q) (g q e) (stood q l))

    -- the messages after next, by whether a block is left
    next_sent : before.walk ≡ suc (before.walk - 1) → (t : Bool) → ltb (before.walk - 1) (length blocks) ≡ t
        → let x : Part × ℕ = choose t (block_part before.now (before.walk - 1), suc (suc (before.walk - 1))) (no_part, 0) in
        SoFar (record { now = before.now; stack = before.stack; walk = x.1 })
        (choose (eqb x.0.len 0) got (got ++ (record { earlier = earlier; bytes = cut x.0 s.image } ∷ [])))
    unfolding choose
    next_sent e true h p w =
        let q = before.walk - 1 in
        let z : p ≡ suc q = omega arith in
        let b = block-least (block_at q blocks) in
        rw (z, ne_eqb (length (block_bytes (block_at q blocks))) 0 (λ n. omega arith)) (sent_one q e (ltb-true q (length blocks) h))
    next_sent e false h p w = absurd (omega arith)

    sent_by : (c : Call) → Sendable c → (t : Bool) → is_accepted (machine_step lent c before).0 ≡ t
        → SoFar (machine_step lent c before).1 (receive c (machine_step lent c before).0 earlier s.image got)
    unfolding permit walked_on hand_out
    sent_by c f false h = rw (refused-same lent c before h, receive-refused c (machine_step lent c before).0 earlier s.image got h) g
    sent_by (edit e) f true h =
        let y = edit-made lent e before h in
        let l = below-fits before.walk before.now i.fits in
        let d = did e before.now y.1 f y.2 in
        rw y.3 (λ p w. rw (edit-before e p before.now y.1 (rw w at y.0) d (omega arith)) (g p w))
    sent_by undo f true h = none_open (machine_step lent undo before).1 got (undo-walk lent before h)
    sent_by (walking walk_start) f true h =
        let y = walk-made lent walk_start before h in
        rw (y.1, y.2) (λ p w. let z : p ≡ 0 = omega arith in rw z tt)
    sent_by (walking walk_next) f true h =
        let y = walk-made lent walk_next before h in
        rw (y.1, y.2) (next_sent (was_open before.walk y.0) (ltb (before.walk - 1) (length blocks)) refl)
    sent_by (walking walk_abandon) f true h =
        none_open (machine_step lent (walking walk_abandon) before).1 got (ap (λ m. m.walk) (walk-made lent walk_abandon before h).2)

  -- the calls of a list after these
  run_sent : (earlier : List Call) (s : State) → Sim lent o.rates (machine_after o earlier) s → (got : List Message) → SoFar (machine_after o earlier) got
      → (cs : List Call) → Each Sendable cs → SoFar (machine_run lent cs (machine_after o earlier)).1 (received earlier got cs s)
  unfolding machine_run received
  run_sent earlier s i got g [] f = g
  run_sent earlier s i got g (c ∷ cs) f =
      let next : machine_after o (earlier ++ (c ∷ [])) ≡ (machine_step lent c (machine_after o earlier)).1 = run-append lent earlier (c ∷ []) (start o.routine) in
      let a = step_sim lent (small o) (journal_small o) o.rates o.rates_fit c (machine_after o earlier) s f.0 i in
      let h = sent_by earlier s i got g c f.0 _ refl in
      rw next at
      (run_sent (earlier ++ (c ∷ [])) (step c s).1 (rw next a.sim) (receive c (step c s).0 earlier s.image got) (rw (next, a.answer) h) cs f.1)

  module _ (cs : List Call) (f : Each Sendable cs) where
    abbrev after : Machine
    after = machine_after o cs

    all_so_far : SoFar after (sent o cs)
    unfolding machine_run
    all_so_far = run_sent [] (fresh o) (fresh-sim o) [] (none_open (start o.routine) [] refl) cs f

    -- next says end only where the walk's place is the number of blocks
    at_end : is_end (next_answer o cs (walking walk_next)) ≡ true → after.walk ≡ suc (count after.now)
    unfolding permit walked_on
    at_end h =
        let y = walk-made lent walk_next after (end-accepted (next_answer o cs (walking walk_next)) h) in
        let n = was_open after.walk y.0 in
        let l = end_late after.now (after.walk - 1) (rw y.1 at h) in
        omega (arith, below-fits after.walk after.now (simulated o cs f).1.fits)

    pub every_block : is_end (next_answer o cs (walking walk_next)) ≡ true → AllSent o (vips (blocks_after o cs)) (sent o cs)
    every_block h =
        let n = length-map (blocks_after o cs) (λ b. b.vip) in
        let e : take (count after.now) (vips (blocks_after o cs)) ≡ vips (blocks_after o cs)
        = ap (λ k. take k (vips (blocks_after o cs))) (sym n) ∙ take-length (vips (blocks_after o cs)) in
        rw e at (all_so_far (count after.now) (at_end h))

    pub once : repeats (vips (blocks_after o cs)) ≡ false
    once = (simulated o cs f).1.holds.blocks.distinct

-- one next on any book that is not spoiled
module _ (s : State) (r : Routine) (p : ℕ) (b : Bytes s.image) (h : held s ≡ accepted r) (w : s.book.walk ≡ suc p) (l : p < length r.explored_blocks) where
  -- what it hands out
  handed : (walked_on walk_next r s.book.walk).0 ≡ block_part r p
  unfolding walked_on hand_out choose
  handed = let e : s.book.walk - 1 ≡ p = omega arith in rw (e, lt-ltb p (length r.explored_blocks) l)

  pub one_block : HandsBlock s r p
  one_block a q =
      let d = ap (λ y. y.0) (walk-done s r h walk_next (next_permitted s.book.walk (λ z. omega arith))) in
      let e : a.part ≡ block_part r p = ap part_in (sym q ∙ d) ∙ handed in
      rw e (ap (λ i. cut (block_part r p) i) (held-sound b h).image ∙ part-is (length s.image) r p l)
    where
      part_in : Answer → Part
      part_in (accepted x) = x.part
      part_in (refused k) = no_part

pub sending : Sending
sending = record { every_block = every_block; once = once; one_block = one_block }
