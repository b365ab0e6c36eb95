-- `call_list::run_calls` meets its contract. The loop's invariant: the calls from the next on do to what is there now what all the calls do to what the run
-- began with.
use Rattle.std.proofs.Common.{◌≡◌, ℕ, ◌+◌, ◌*◌, ◌/◌, ◌<◌, ◌≤◌, [], length, slice_index_or, refl, ◌∙◌, arith}
use Rattle.call_list.proofs.Words as W
use Rattle.call_list.proofs.Runs as R
use Rattle.call_list.proofs.run_calls.Goals as goal
use Rattle.call_list.proofs.run_calls.Goals.{In-loop-call}

-- the place is one of a call, and its words are four of the list's in a row
below : (c : In-loop-call) → c.loop-call.call-index < length c.args.words.now / 4
below c = omega (arith, c.loop-call-test.true, c.words_of_calls-calls.ensures.number)

whole : (c : In-loop-call) → c.loop-call.call-index * 4 + 4 ≤ length c.args.words.now
whole c = W.whole-there _ _ c.words_of_calls-calls.ensures.fours _ (below c)

word : (c : In-loop-call) (j : ℕ) → j < 4
    → slice_index_or (slice_index_or c.words_of_calls-calls.result.now c.loop-call.call-index []) j 0 ≡ slice_index_or c.args.words.now (c.loop-call.call-index * 4 + j) 0
word c = W.word-there _ _ c.words_of_calls-calls.ensures.fours _ (below c)

kind : (c : In-loop-call) → slice_index_or (slice_index_or c.words_of_calls-calls.result.now c.loop-call.call-index []) 0 0 ≡ slice_index_or c.args.words.now (c.loop-call.call-index * 4) 0
kind c = W.kind-there _ _ c.words_of_calls-calls.ensures.fours _ (below c)

pub loop-call-init : goal.loop-call-init
loop-call-init c = R.begun-at _ _ c.requires refl

pub call_in-answered-requires : goal.call_in-answered-requires
call_in-answered-requires c =
    let here = (goal.at.call_in-answered-requires c).In-loop-call in
    let l = whole here in
    let s = W.sits c.args.words.now c.args.bytes.now (c.loop-call.call-index * 4) (omega (arith, l)) c.loop-call.invariant.encodes in
    let b = word here 2 (omega arith) in
    let e = word here 3 (omega arith) in
    record { ordered = omega (arith, b, e, s.ordered); inside = omega (arith, e, s.inside) }

pub loop-call-preserved : goal.loop-call-preserved
loop-call-preserved c =
    let here = (goal.at.loop-call-preserved c).In-loop-call in
    let i = c.loop-call.call-index in
    let l = whole here in
    let four = slice_index_or c.words_of_calls-calls.result.now i [] in
    let same = W.same-call-at four c.args.words.now c.args.bytes.now (i * 4) (kind here) (word here 1 (omega arith)) (word here 2 (omega arith)) (word here 3 (omega arith)) in
    R.next-place _ _ _ _ i c.loop-call.invariant (omega (arith, l)) (R.same-call _ (c.new-last.ensures _ _ ∙ c.call_in-answered.ensures) same)

pub returns : goal.returns
returns c = R.all-ended _ _ _ _ c.loop-call.call-index c.loop-call.invariant (omega (arith, c.loop-call-test.false, c.words_of_calls-calls.ensures.number))
