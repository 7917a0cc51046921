-- The proofs of this crate that the crates above cite; they cite no others: the laws, by name, and lemmas on trees, histories and journals.

-- the laws: what the function of the same name in src/theorems.rt ensures
pub use Rattle.path_model.proofs.OnePath.{each_path_admits_its_words}
pub use Rattle.path_model.proofs.OpenBurst.{each_labelling_counts, counters_tell_open_braces}
pub use Rattle.path_model.proofs.AmongOthers.{each_path_guards}
pub use Rattle.path_model.proofs.AllPaths.{all_paths_judge, projections_keep_progress, each_event_moves, first_is_one, starts_only_block, each_block_stays, finishes_unblock}
pub use Rattle.path_model.proofs.Trimmed.{each_path_trims, trimming_keeps_answers, trimmed_admits_the_words}
pub use Rattle.path_model.proofs.Downward.{substitution_reads_upwards}
pub use Rattle.path_model.proofs.Flat.{one_table_shows_all}
pub use Rattle.path_model.proofs.Agreement.{the_machines_agree}
pub use Rattle.path_model.proofs.BoundedValues.{each_value_is_bounded, values_among_are_bounded, table_values_are_bounded}
pub use Rattle.path_model.proofs.KeptTerms.{trimmed_terms_touch_the_kept, finishes_find_their_counters}
pub use Rattle.path_model.proofs.HonestJournals.{fronts_are_honest, each_live_activation_is_found}
pub use Rattle.path_model.proofs.MachineOwes.{the_machine_owes_the_same, honest_by_machine_is_honest}
pub use Rattle.path_model.proofs.Progress.{legal_kept as each_honest_journal_is_legal, room_kept as each_honest_journal_has_room, progress_counts as live_activations_are_in_progress}
pub use Rattle.path_model.proofs.OwedReplies.{each_attempt_is_owed_a_reply, one_reply_is_owed}
pub use Rattle.path_model.proofs.StuckStates.{frozen_stays_frozen, startables_may_start, live_activations_may_finish, finishes_come_between}
pub use Rattle.path_model.proofs.StuckResources.{stuck_stays_stuck}
pub use Rattle.path_model.proofs.Unasked.{unasked_devices_may_be_replaced}
pub use Rattle.path_model.proofs.Segments.{one_segment_is_a_journal, more_room_keeps_honest, segments_are_one_journal, each_segment_has_room, each_attempt_is_owed_a_reply_behind, one_reply_is_owed_behind}
pub use Rattle.path_model.proofs.TreeTests.{well_formed_trees_pass}
pub use Rattle.path_model.proofs.Guarantees.{each_front_is_legal, each_front_is_legal_on_all, counts_add_up, each_path_keeps_its_counts, each_value_is_a_count, entered_parts_are_underway, each_end_was_begun, each_part_outside_braces_is_alone, progress_is_underway, bounds_hold, sequences_keep_their_order, sequences_go_round_by_round}
pub use Rattle.path_model.proofs.Refusals.{each_refusal_has_a_reason, starts_are_legal_unless_opposed, finishes_are_legal_in_progress}
pub use Rattle.path_model.proofs.JournalGuarantees.{each_journal_follows_its_paths, segments_follow_their_paths, live_is_in_progress, live_counts_add_up, live_bounds_hold, one_is_live_outside_braces, live_parts_outside_braces_are_alone, each_block_has_a_reason, each_block_has_a_reason_behind, unopposed_starts_are_admitted, unopposed_starts_are_admitted_behind, live_activations_are_counted, own_activations_finish, roomy_starts_are_judged, roomy_starts_are_judged_behind, each_reply_tells_what_is_live, each_reply_tells_what_is_live_behind}
-- the names of a tree, and the path above a name
pub use Rattle.path_model.proofs.Upward.{has_names, names_has, path_left, path_right, path_one, path_other}
-- lists of paths with numbers, and the values of all paths as those of each
pub use Rattle.path_model.proofs.AllPaths.{every_map, every_both, every_from, every_to, first_from, first_to, first_same, none_same, on_tree, placed, after_placed, now}
-- equal trees, and the kept paths with the values of each
pub use Rattle.path_model.proofs.Trimmed.{same_tree_same, kept_none, kept_every, lean_now, lean_after_placed}
-- the numbers of bounds, where there is none, and of what stands in terms
pub use Rattle.path_model.proofs.OnePath.{bounds_out}
pub use Rattle.path_model.proofs.FlatNumbers.{rank_before, rank_after, rank_low, rank_apart, bound_within, opening_out, opening_of}
pub use Rattle.path_model.proofs.Flat.{owns_low, bounds_low}
pub use Rattle.path_model.proofs.FlatNumbers.{InTable, prologue_has, epilogue_has}
-- the table of paths without braces
pub use Rattle.path_model.proofs.FlatNumbers.{none_counted}
pub use Rattle.path_model.proofs.Flat.{plain_openings}
-- one more line of a journal
pub use Rattle.path_model.proofs.JournalLists.{begun_more, begun_quiet, live_quiet, history_quiet, contents_more, quiet_use, quiet_reply}
pub use Rattle.path_model.proofs.Unasked.{asked_by_own, asked_more, RefusesAsDevice, refuses_as_device}
pub use Rattle.path_model.proofs.HonestJournals.{line_of, honest_more, live_started, live_finished, live_found}
pub use Rattle.path_model.proofs.Progress.{history_started, history_finished, live_in_progress, begun_lines}
-- one more line of a segment, and one more segment
pub use Rattle.path_model.proofs.Segments.{room_behind_is, joined_more, segments_more, segments_rotated, segments_over, owed_numbered}
-- what may go to another thread
pub use Rattle.path_model.proofs.Threads.{expr_send}
