-- `unfolding step_definitions` unfolds the definitions of the step and the run, for cases that are computed on states.
use mathlib.Core.List.{flatten}
use Rattle.layout.specs.Search.{index_of}
use Rattle.layout.specs.Bytes.{bytes_at}
use Rattle.layout.specs.Numbers.{to_le_bytes, from_le_bytes}
use Rattle.layout.specs.StringFields.{is_string, string_bytes}
use Rattle.layout.specs.Bits.{bit_at, has_bit, set_bit, clear_bit, set_places}
use Rattle.reader.specs.Frames.{length_field, frame_length_up_to, is_frame, kind_of, body_of, frame_bytes}
use Rattle.reader.specs.Fields.{field_fits, field_end, field_value, fields_fit, field_values, value_number, value_string}
use Rattle.reader.specs.Kinds.{kinds, fields_in, kind_fields}
use Rattle.reader.specs.Messages.{body_content, message_content}
use Rattle.model.specs.Lists.{contains, remove_at}
use Rattle.model.specs.State.{empty_state, user_numbers, post_numbers, pending_numbers, user_at, post_at, pending_at, notes_to, note_at, is_admin}
use Rattle.model.specs.Actions.{action_named, action_from, action_of}
use Rattle.model.specs.Lookups.{is_registered, is_post, is_pending, user_slot, post_place, pending_place, user_numbered, post_numbered, are_friends, has_requested, note_of_request, owner_of, is_owner, may_read}
use Rattle.model.specs.Refusals.{cause_number, right_of, lacks_right, after_login, post_rows, user_rows, pending_rows, change_refusals, query_refusals, first_cause}
use Rattle.model.specs.Changes.{add_user, update_user, update_post, set_note, add_request, remove_request, add_friends, remove_friends, remove_requests, accept_request, apply_change}
use Rattle.model.specs.Answers.{counted_list, staff_list, post_entry, users_in, answer_body}
use Rattle.model.specs.Step.{respond, step_action, step_state}
use Rattle.model.specs.Replay.{frames_in, frames_of, run_frames, run_of}

unfoldable pub step_definitions : Unit {0}
unfolding flatten index_of bytes_at to_le_bytes from_le_bytes is_string string_bytes bit_at has_bit set_bit clear_bit set_places length_field frame_length_up_to is_frame kind_of body_of frame_bytes field_fits field_end field_value fields_fit field_values kinds fields_in kind_fields body_content message_content contains remove_at empty_state user_numbers post_numbers pending_numbers user_at post_at pending_at notes_to note_at is_admin value_number value_string action_named action_from action_of is_registered is_post is_pending user_slot post_place pending_place user_numbered post_numbered are_friends has_requested note_of_request owner_of is_owner may_read cause_number right_of lacks_right after_login post_rows user_rows pending_rows change_refusals query_refusals first_cause add_user update_user update_post set_note add_request remove_request add_friends remove_friends remove_requests accept_request apply_change counted_list staff_list post_entry users_in answer_body respond step_action step_state frames_in frames_of run_frames run_of
step_definitions = tt
