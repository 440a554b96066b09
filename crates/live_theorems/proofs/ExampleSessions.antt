-- The worked list of calls, by the law and by computing the session.
use mathlib.Core.Path.{◌≡◌, refl, ap, ◌∙◌}
use mathlib.Core.List.{List, ◌∷◌}
use Rattle.rules.specs.Sums.{sum, sum_pixels}
use Rattle.rules.specs.Greys.{grey, grey_frame}
use Rattle.rules.specs.Thresholds.{at_most, reaches, least, threshold}
use Rattle.rules.specs.Planes.{threshold_bit, distance, exclusion_bit, within}
use Rattle.rules.specs.Bitmaps.{row_words}
use Rattle.rules.specs.Differences.{differ, keep, with_partner, difference, compared}
use Rattle.rules.specs.Refusals.{bad_side, bad_size, bad_halvings, too_small, bad_tolerance, bad_percentile, level_pixels}
use Rattle.rules.specs.Levels.{least_move_order, planes_by, first_least, chosen, level, count_at, compared_at, pair}
use Rattle.rules.specs.Series.{grey_of, pair_of, sum_from, frame_offset, offset_list, answer_of, answer_by, series_answer}
use Rattle.live.specs.Steps.{Reply, start_number, add_number, drop_number, tell_number}
use Rattle.live_theorems.specs.Sessions.{opened, all_rasters, number_in, changed, frames_told, offsets_told, replies_in}
use Rattle.live_theorems.specs.LiveLaw.{accepted}
use Rattle.live_theorems.specs.LiveExamples.{worked_calls, worked_replies, WorkedSession}
use Rattle.live_theorems.proofs.LawProof.{least-move-law}

session : replies_in least_move_order (opened 4 4 0 0 50) worked_calls ≡ worked_replies
unfolding replies_in number_in changed frames_told offsets_told start_number add_number drop_number tell_number row_words bad_side bad_size bad_halvings too_small bad_tolerance bad_percentile level_pixels
    series_answer answer_by answer_of offset_list frame_offset sum_from pair_of grey_of all_rasters pair level chosen first_least count_at compared_at planes_by
    difference compared with_partner keep differ within sum_pixels sum threshold_bit exclusion_bit distance threshold least reaches at_most grey_frame grey
session = refl

pub worked-session : WorkedSession
unfolding start_number row_words bad_side bad_size bad_halvings too_small bad_tolerance bad_percentile
worked-session m fits =
    least-move-law.as_session m 36 16 4 4 0 0 50 worked_calls fits refl
    ∙ ap (λ (rest : List Reply). accepted ∷ rest) session
