-- Made by tools/computes: names the definitions that compute, so that a theorem proved by computing says `unfolding computes` and no more. Assumes nothing.
use mathlib.Core.List.{flat_map}
use Rattle.std.specs.Float.Ieee.{of_bits, to_bits, add, sub}
use Rattle.basis.specs.Computes.{computes as computes-basis}
use Rattle.model.specs.Value.{is_kind, legal_metres, legal_value, is_negative, at_most, is_within, exact, rounded, whole_plus, whole_minus, metres_plus, metres_minus, no_sum, plus, minus}
use Rattle.model.specs.Statement.{binder_of, operations, spaces_of, spaces_named}
use Rattle.model.specs.Reading.{◌>>=◌, give, refuse, byte, natural, several, counted, chosen_by, whole_of, field_value, actual_field, formal_field, reference_field, sum_field, anonymous_field, ranged_field, field, on_space, on_spaces, operation, branch, statement}
use Rattle.model.specs.Legal.{form_of, legal_binder, summable, legal_range, legal_parts, legal_field, bind_kind, bind_kinds, legal_fields, fields_of, is_space, field_count, legal_operation, legal_operations, is_guard, is_body_operation, legal_branch, legal_statement, parse, legal_body}
use Rattle.model.specs.Writing.{counted_bytes, value_bytes, field_bytes, lookup_code, transfer_code, operation_bytes, branch_bytes, statement_bytes}
use Rattle.model.specs.Matching.{template_field, same_count, each_pair, same_kind, same_kinds, same_value, same_values, mismatch_number, first_mismatch, same_space, is_match, selected, oldest, bind_field, bind}
use Rattle.model.specs.Meeting.{lookup_alone, lookup_in, refers, overlap, fields_meet, each_meets, meet, meeting, can_meet}
use Rattle.model.specs.Execution.{looked_up, made, made_all, appended, in_space, moved, perform, and_then, perform_all, holds, guard_holds, ready, chosen, is_blocking, can_wait, execute, attempt, tuples_after}
use Rattle.model.specs.Run.{fresh, host_up, monitor_numbers, next_monitor, monitors_used_up, is_open, denied_to, is_denied, is_waiting, failure_tuple, has_room, noticed, owed_mask, is_owed, set_owed, owes_some, laid_one, laid_for, laid, bound_from, outcome_of, values_of, ran_reply, woken_by, wake, continued, settle_within, settle}
use Rattle.model.specs.Step.{mark_bytes, mark_among, mark_of, record_of, host, monitor_body, space_kind, open_body, close_body, request_of, standing, access, some_waiting_names, checks, asking_host, asking_process, plain_reply, in_variable0, refused, malformed, replied, recovered, dropped, notified, crashed, opened, closed, unmet, ran, effect, settled, handled, step}
use Rattle.model.specs.Valid.{counts_fit, legal_tuple, spaces_rise, waiting_rise, is_shared, zero_shared, spaces_below_next, tuples_in_open, positions_fit, bodies_legal, waiting_hosts_up, processes_differ, open_to_process, named_spaces_open, waiting_can_wait, none_ready, owed_to_given, owes_only_full, run_tests, valid_run}
use Rattle.model.proofs.MeetingLaws.{higher, shared_bits, meeting_value, meeting_values, meeting_tuple}
use Rattle.model.proofs.BoundLaws.{binds_field, binds_operation, binds}

unfoldable pub computes : Unit {0}
unfolding flat_map of_bits to_bits add sub computes-basis is_kind legal_metres legal_value is_negative at_most is_within exact rounded whole_plus whole_minus metres_plus metres_minus no_sum plus minus binder_of operations spaces_of spaces_named ◌>>=◌ give refuse byte natural several counted chosen_by whole_of field_value actual_field formal_field reference_field sum_field anonymous_field ranged_field field on_space on_spaces operation branch statement form_of legal_binder summable legal_range legal_parts legal_field bind_kind bind_kinds legal_fields fields_of is_space field_count legal_operation legal_operations is_guard is_body_operation legal_branch legal_statement parse legal_body counted_bytes value_bytes field_bytes lookup_code transfer_code operation_bytes branch_bytes statement_bytes template_field same_count each_pair same_kind same_kinds same_value same_values mismatch_number first_mismatch same_space is_match selected oldest bind_field bind lookup_alone lookup_in refers overlap fields_meet each_meets meet meeting can_meet looked_up made made_all appended in_space moved perform and_then perform_all holds guard_holds ready chosen is_blocking can_wait execute attempt tuples_after fresh host_up monitor_numbers next_monitor monitors_used_up is_open denied_to is_denied is_waiting failure_tuple has_room noticed owed_mask is_owed set_owed owes_some laid_one laid_for laid bound_from outcome_of values_of ran_reply woken_by wake continued settle_within settle mark_bytes mark_among mark_of record_of host monitor_body space_kind open_body close_body request_of standing access some_waiting_names checks asking_host asking_process plain_reply in_variable0 refused malformed replied recovered dropped notified crashed opened closed unmet ran effect settled handled step counts_fit legal_tuple spaces_rise waiting_rise is_shared zero_shared spaces_below_next tuples_in_open positions_fit bodies_legal waiting_hosts_up processes_differ open_to_process named_spaces_open waiting_can_wait none_ready owed_to_given owes_only_full run_tests valid_run higher shared_bits meeting_value meeting_values meeting_tuple binds_field binds_operation binds
computes = tt
