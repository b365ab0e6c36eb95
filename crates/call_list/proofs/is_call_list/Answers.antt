-- `call_list::is_call_list` meets its contract. The loop's invariant: the words encode a list of calls exactly if those from the next call on do.
use Rattle.std.proofs.Common.{◌≡◌, ℕ, ◌+◌, ◌*◌, ◌/◌, ◌<◌, ◌≤◌, [], length, drop, slice_index_or, refl, sym, ap, ◌∙◌, arith}
use Rattle.machine.specs.CallList.{is_call_list}
use Rattle.call_list.proofs.Words as W
use Rattle.call_list.proofs.is_call_list.Goals as goal
use Rattle.call_list.proofs.is_call_list.Goals.{In-loop-call}

-- the place is one of a call, and its words are four of the list's in a row
below : (c : In-loop-call) → c.loop-call.call-index < length c.args.words.now / 4
below c = omega (arith, c.loop-call-test.true, c.as_chunks.ensures.front_len)

whole : (c : In-loop-call) → c.loop-call.call-index * 4 + 4 ≤ length c.args.words.now
whole c = W.whole-there _ _ c.as_chunks.ensures.front _ (below c)

word : (c : In-loop-call) (j : ℕ) → j < 4
    → slice_index_or (slice_index_or c.as_chunks.result.0.now c.loop-call.call-index []) j 0 ≡ slice_index_or c.args.words.now (c.loop-call.call-index * 4 + j) 0
word c = W.word-there _ _ c.as_chunks.ensures.front _ (below c)

kind : (c : In-loop-call) → slice_index_or (slice_index_or c.as_chunks.result.0.now c.loop-call.call-index []) 0 0 ≡ slice_index_or c.args.words.now (c.loop-call.call-index * 4) 0
kind c = W.kind-there _ _ c.as_chunks.ensures.front _ (below c)

pub loop-call-init : goal.loop-call-init
loop-call-init c = refl

pub returns-then-call-gt-LAST_KIND : goal.returns-then-call-gt-LAST_KIND
returns-then-call-gt-LAST_KIND c =
    let here = (goal.at.returns-then-call-gt-LAST_KIND c).In-loop-call in
    sym (c.loop-call.invariant ∙ W.wrong_kind _ _ _ (whole here) (omega (arith, kind here, c.if-call-gt-LAST_KIND.true)))

pub returns-then-call : goal.returns-then-call
returns-then-call c =
    let here = (goal.at.returns-then-call c).In-loop-call in
    let k = kind here in
    let b = word here 2 (omega arith) in
    let e = word here 3 (omega arith) in
    sym (c.loop-call.invariant ∙ W.wrong_order _ _ _ (whole here) (omega (arith, k, c.if-call-gt-LAST_KIND.false)) (omega (arith, b, e, c.if-call.true)))

pub returns-then-most-call : goal.returns-then-most-call
returns-then-most-call c =
    let here = (goal.at.returns-then-most-call c).In-loop-call in
    let k = kind here in
    let b = word here 2 (omega arith) in
    let e = word here 3 (omega arith) in
    sym (c.loop-call.invariant
    ∙ W.outside _ _ _ (whole here) (omega (arith, k, c.if-call-gt-LAST_KIND.false)) (omega (arith, b, e, c.if-call.false)) (omega (arith, e, c.if-most-call.true)))

pub loop-call-preserved : goal.loop-call-preserved
loop-call-preserved c =
    let here = (goal.at.loop-call-preserved c).In-loop-call in
    let k = kind here in
    let b = word here 2 (omega arith) in
    let e = word here 3 (omega arith) in
    let i = c.loop-call.call-index in
    let n : i * 4 + 4 ≡ (i + 1) * 4 = omega arith in
    c.loop-call.invariant
    ∙ W.well _ _ _ (whole here) (omega (arith, k, c.if-call-gt-LAST_KIND.false)) (omega (arith, b, e, c.if-call.false)) (omega (arith, e, c.if-most-call.false))
    ∙ ap (λ a. is_call_list (drop a c.args.words.now) c.args.bytes.now) n

pub returns : goal.returns
returns c =
    let made = c.as_chunks.ensures in
    let n = length c.args.words.now in
    let last : n / 4 * 4 ≡ c.loop-call.call-index * 4 = omega (arith, made.front_len, c.loop-call-test.false, c.loop-call.auto.call-index-end) in
    c.is_empty.ensures
    ∙ W.left_over c.as_chunks.result.1.now c.args.bytes.now _ refl (omega (arith, made.back_len))
    ∙ ap (λ l. is_call_list l c.args.bytes.now) (made.back ∙ ap (λ a. drop a c.args.words.now) last)
    ∙ sym c.loop-call.invariant
