-- The pair call's answer decides; the counts that it wrote stand at the beginning of their buffer.
use mathlib.Core.Path.{◌≡◌, sym}
use native.Mathlib.Omega.{arith}
use lib.ListN.{length}
use Rattle.files_text.proofs.FilesTextLaws.{not-zero, halvings, pair-refused-text, pair-moved-text}
use Rattle.files_text.proofs.put_pair.Goals as goal

pub put_aligned-requires-clause-s_bound : goal.put_aligned-requires-clause-s_bound
put_aligned-requires-clause-s_bound c =
    let a = c.args in
    -- the lengths of the lent arrays
    let grey : length a.grey.now ≡ 65536 = c.told-grey in
    let words : length a.words.now ≡ 8192 = c.told-words in
    let answered = rw (grey, words) at c.in-Ok.ensures.answered in
    halvings a.size a.s a.tolerance a.percentile a.first.now a.second.now _ (sym answered)

pub put_aligned-requires-clause-s_in_bounds : goal.put_aligned-requires-clause-s_in_bounds
put_aligned-requires-clause-s_in_bounds c =
    let a = c.args in
    let grey : length a.grey.now ≡ 65536 = c.told-grey in
    let words : length a.words.now ≡ 8192 = c.told-words in
    let answered = rw (grey, words) at c.in-Ok.ensures.answered in
    let few = halvings a.size a.s a.tolerance a.percentile a.first.now a.second.now _ (sym answered) in
    omega arith

pub returns-in-Err : goal.returns-in-Err
returns-in-Err c =
    let a = c.args in
    let grey : length a.grey.now ≡ 65536 = c.told-grey in
    let words : length a.words.now ≡ 8192 = c.told-words in
    let answered = rw (grey, words) at c.in-Err.ensures.answered in
    record {
      wrote = rw (pair-refused-text a.size a.s a.tolerance a.percentile a.first.now a.second.now _ (sym answered), ← c.from.ensures) c.put_refused.ensures;
      memory_kept = λ e. rw (grey, words) at c.pair_ward-answer.ensures.memory_kept (not-zero _ e);
    }

pub returns-in-Ok : goal.returns-in-Ok
returns-in-Ok c =
    let a = c.args in
    let grey : length a.grey.now ≡ 65536 = c.told-grey in
    let words : length a.words.now ≡ 8192 = c.told-words in
    let answered = rw (grey, words) at c.in-Ok.ensures.answered in
    let counts = rw (grey, words) at c.pair_ward-answer.ensures.counts_are in
    record {
      wrote = rw (pair-moved-text a.size a.s a.tolerance a.percentile a.first.now a.second.now _ (sym answered) _ _ counts) c.put_aligned.ensures;
      memory_kept = λ e. rw (grey, words) at c.pair_ward-answer.ensures.memory_kept (not-zero _ e);
    }
