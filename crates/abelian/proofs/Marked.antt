-- The marked words, computed: each row of the table holds by the definitions alone.
use lib.Dec.{T}
use mathlib.Core.Bool.{◌&&◌}
use Rattle.abelian.specs.Lists.{all}
use Rattle.abelian.specs.Words.{alphabet_size, first_letter, longest, letters, is_letter, outside_from, first_outside, of_letters, all_equal, one_letter, count, vector, none_above, contained}
use Rattle.abelian.specs.Periods.{in_range, heads, row, pairs, head_of, block, whole_blocks, tail_of, is_period, periods}
use Rattle.abelian.specs.Output.{output_word, period_word, square_word, full_word, run_word, hands_word, window_word, report_head, pattern_word, fill}
use Rattle.abelian.specs.Trials.{plain_trials, ruled_out, occurrence, distance, greatest_gap, occurrence_bound, lowest_tried, is_candidate, candidates, skipping_trials}
use Rattle.abelian.specs.FullPeriods.{divides, proper_divisor, is_full, full_periods, count_divisor, scale, is_scaled, scaled_positions, distances, scaled_gap}
use Rattle.abelian.specs.EndedLengths.{ended_length, board_of}
use Rattle.abelian.specs.Judge.{block_at, is_end, breaks, failures}
use Rattle.abelian.specs.Squares.{is_square, square_starts, square_words}
use Rattle.abelian.specs.Runs.{most, goes_back, run_starts, repeats, run_end, left_fits, right_fits, left_hand, right_hand, run_at, runs, words_of_run, run_words}
use Rattle.abelian.specs.Windows.{longest_record, is_window, window_starts, window_words}
use Rattle.abelian.specs.Patterns.{largest_alphabet, longest_square_free, words_over, square_free, square_free_words, read_in, pattern_words}
use Rattle.abelian.specs.Covers.{within, is_cover_length, cover_length}
use Rattle.abelian.specs.Refusals.{first_holding, word_refusal, report_refusal, window_refusal, square_free_refusal, tracker_refusal}
use Rattle.abelian.specs.Calls.{first_failure, judging, listing, period_words, full_words, plain_listing, skipping_listing, full_listing, scaled_listing, square_listing, run_listing, none_or_length, cover_answer, report_words, reporting}
use Rattle.abelian.specs.Calls.{count_words, period_count, full_count, square_count, run_count, window_listing, window_count, square_free_listing, square_free_count, report_count}
use Rattle.abelian.specs.Trackers.{board_size, damaged_bytes, damaged, entries, pairs_where, open_pairs, ended_pairs, totals, fresh_tracker, step_unless, entry_added, added, adding, shortened, taking_back, clearing, tracker_listing, tracker_count}
use Rattle.abelian.specs.Marked.{entry_of, numbers, same_answer, refusal, row_holds, marked, more, without_squares, requested, long}

-- P1 to P11 of document 01, the rows for clauses that these leave untried, and those of document 02, the long ones last.
pub marked_words : T (all row_holds marked && all row_holds more && all row_holds without_squares && all row_holds requested && all row_holds long)
unfolding alphabet_size first_letter longest letters is_letter outside_from first_outside of_letters all_equal one_letter count vector none_above contained in_range heads row pairs head_of block whole_blocks tail_of is_period periods output_word period_word square_word full_word run_word hands_word window_word report_head pattern_word fill plain_trials ruled_out occurrence distance greatest_gap occurrence_bound lowest_tried is_candidate candidates skipping_trials divides proper_divisor is_full full_periods count_divisor scale is_scaled scaled_positions distances scaled_gap ended_length board_of block_at is_end breaks failures is_square square_starts square_words most goes_back run_starts repeats run_end left_fits right_fits left_hand right_hand run_at runs words_of_run run_words longest_record is_window window_starts window_words largest_alphabet longest_square_free words_over square_free square_free_words read_in pattern_words within is_cover_length cover_length first_holding word_refusal report_refusal window_refusal square_free_refusal tracker_refusal first_failure judging listing period_words full_words plain_listing skipping_listing full_listing scaled_listing square_listing run_listing none_or_length cover_answer report_words reporting count_words period_count full_count square_count run_count window_listing window_count square_free_listing square_free_count report_count board_size damaged_bytes damaged entries pairs_where open_pairs ended_pairs totals fresh_tracker step_unless entry_added added adding shortened taking_back clearing tracker_listing tracker_count entry_of numbers same_answer refusal row_holds marked more without_squares requested long
marked_words = tt
