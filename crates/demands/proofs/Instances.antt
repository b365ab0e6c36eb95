-- Every starred instance holds: each is computed by the definitions, and that of any second image of some length once this length is put in.
use mathlib.Core.Path.{◌≡◌, refl}
use mathlib.Core.List.{List}
use Prim.Native.Nat.{ℕ, ◌^◌}
use native.Mathlib.Omega.{arith}
use lib.ListN.{length}
use Rattle.fields.specs.Parse.{bind, le, uint, int, part, many, span, pad, flag}
use Rattle.fields.specs.Bytes.{put}
use Rattle.fields.specs.Outcome.{refused, after, refusal_of, refuse_if, refuse_unless, what_is_read, attempt}
use Rattle.fields.specs.Lists.{choose, same, has, any, every, last_of, but_last, last_is}
use Rattle.op.specs.Ops.{names, counts, index_of}
use Rattle.op.specs.Text.{lead, next_state, text}
use Rattle.pod.specs.Blocks.{repeats}
use Rattle.pod.specs.Layout as layout
use Rattle.pod.specs.Sound as sd
use Rattle.pod.specs.Descs as dc
use Rattle.pod.specs.Written as w
use Rattle.machine.specs.Trailer as tr
use Rattle.machine.specs.Edits as e
use Rattle.machine.specs.Walk as wk
use Rattle.machine.specs.Machine as m
use Rattle.machine.specs.Journal as j
use Rattle.machine.specs.Book.{State, held}
use Rattle.machine.specs.Book as b
use Rattle.machine.specs.Charge as c
use Rattle.machine.specs.Outside.{copy_into, outside_copy}
use Rattle.machine.specs.CallList as l
use Rattle.machine.specs.Look.{element}
use Rattle.demands.specs.Sending.{received}
use Rattle.demands.specs.Instances.{three_walked, Instances}

-- a second image at the limit leaves it to the book
as_held : (s : State) (copy : List ℕ) {e : ℕ} → length copy ≡ 2 ^ 24 → held s ≡ refused e → (outside_copy s copy).0 ≡ refused e
unfolding outside_copy attempt after refuse_unless choose
as_held s copy h g = rw (h, g)

pub instances : Instances
unfolding refusal_of refuse_if refuse_unless what_is_read attempt bind choose le uint int part many span pad flag after names counts same index_of lead
    next_state text has repeats layout.header layout.register layout.immediate layout.operand layout.named layout.opcode layout.after_opcode_by
    layout.instruction layout.convention layout.block layout.blocks layout.routine w.bytes w.many_bytes w.counted_bytes w.header_bytes
    w.register_bytes w.immediate_bytes w.operand_bytes w.name_bytes w.instruction_bytes w.convention_bytes w.block_head_bytes w.block_bytes
    w.routine_head_bytes w.routine_bytes e.place last_of but_last last_is e.remove_at e.insert_at e.change_at e.leaves_block e.edited e.cost e.admit m.used_by m.machine_edit
    m.machine_undo m.machine_call m.machine_step m.machine_run tr.trailer_bytes tr.trailer j.read_size j.entry j.is_fresh j.or_spoiled j.whole
    j.undo_create j.undo_remove j.without_last j.undo_append j.undo_entry j.undone put b.in_image b.opened b.opening b.open_book b.held
    b.edit_book b.restored b.undo_book b.call_book b.step b.run c.group c.total c.cents c.subtracted c.added c.carried every
    sd.is_slice sd.sound_operand sd.appended any dc.operand_desc dc.places dc.instruction_desc dc.desc_instruction dc.writing dc.written_to
    wk.walk_fits wk.hand_out wk.walked_on m.permit m.machine_walk b.walk_book copy_into outside_copy element received l.is_call_list l.call_of l.calls l.told l.last_told
instances =
    record {
      smallest_read = refl;
      short = refl;
      empty = refl;
      pad = refl;
      purge_read = refl;
      purge = refl;
      machine = refl;
      mark = refl;
      own = refl;
      foreign = refl;
      nop = refl;
      mov = refl;
      nop_count = refl;
      created = refl;
      created_order = refl;
      removed = refl;
      removed_order = refl;
      taken_back = refl;
      taken_back_order = refl;
      library_created = refl;
      library_created_order = refl;
      library_removed = refl;
      library_removed_order = refl;
      library_taken_back = refl;
      library_taken_back_order = refl;
      group_firsts = refl;
      group_lasts = refl;
      rounded = refl;
      rounded_once = refl;
      leaving_numbers = refl;
      leaving = refl;
      closed = refl;
      own_block_closed = refl;
      others_open = refl;
      closing = refl;
      closed_refused = refl;
      opened_again = refl;
      library_closing = refl;
      library_closed_refused = refl;
      library_opened_again = refl;
      sums = refl;
      rates_stay = refl;
      removed_short = refl;
      undone_short = refl;
      appended_over = refl;
      restored_over = refl;
      created_any = refl;
      uncreated_any = refl;
      full_first = refl;
      refused_opening = refl;
      largest_rates = (omega arith, (omega arith, (omega arith, (omega arith, (omega arith, (omega arith, tt))))));
      own_rates = refl;
      opened_sum = refl;
      image_full_first = refl;
      charged_afresh = refl;
      sound_slices = refl;
      crooked_slices = refl;
      crooked_opened = refl;
      crooked_first = refl;
      crooked_cut = refl;
      cut_read = refl;
      foreign_first = refl;
      asked_in_turn = refl;
      sound_appended = refl;
      third_asked = refl;
      any_immediate = refl;
      crooked_kept = refl;
      crooked_written = refl;
      append_alone = refl;
      conventions_told = refl;
      blocks_told = refl;
      routines_told = refl;
      crooked_refused = refl;
      gone_on = refl;
      library_crooked_refused = refl;
      library_gone_on = refl;
      three_sent = refl;
      library_three_sent = refl;
      sent_again = refl;
      barred = refl;
      library_barred = refl;
      walk_numbers = refl;
      back_after_end = refl;
      between_handed = refl;
      between_messages = refl;
      walks_by_hand = refl;
      looks_by_hand = refl;
      next_by_hand = refl;
      walk_by_hand = refl;
      others_by_hand = refl;
      spoiled_first = refl;
      walk_kinds = refl;
      last_kind = refl;
      last_alone = refl;
      twenty_alone = refl;
      twenty_one_alone = refl;
      operands_masked = refl;
      all_else_kept = refl;
      too_short_kept = refl;
      just_enough = refl;
      copy_and_zeros = refl;
      copied_alike = refl;
      spoiled_before_short = refl;
      too_large_first = λ s copy h. rw h;
      at_the_limit = λ copy h. as_held (three_walked 5) copy h refl;
    }
