-- The known points hold: all of them, by computation.
-- Assumes nothing.
use mathlib.Core.Path.{refl}
use Rattle.records.specs.Record.{two_bytes_of, record_text}
use Rattle.order.specs.All.{All}
use Rattle.version_reading.specs.Reading.{starred}
use Rattle.version_reading.specs.Value.{listed, label_from, value_of}
use Rattle.version_roundtrip.specs.Text.{value_text}
use Rattle.version_roundtrip.proofs.Extremes.{computed}
use Rattle.version_order.specs.Versions.{compare_release, compare_key, compare_public, compare_label, compare_values}
use Rattle.version_prefix.specs.Prefix.{prefix_matches, next_prefix}
use Rattle.version_order.specs.Compared.{compared}
use Rattle.version_word.specs.Small.{small_release, is_small, release_word, word_of}
use Rattle.version_word.specs.Worded.{worded, word_answer}
use Rattle.list_clauses.proofs.Computed.{computed_list}
use Rattle.list_accepting.specs.Accept.{holds, accepted}
use Rattle.list_ends.specs.Shape.{ranges_of}
use Rattle.table_reading.specs.Text.{ranges_text, table_text}
use Rattle.table_agreement.specs.Points.{Holds, points}

pub known_points : All Holds points
unfolding computed computed_list starred listed label_from value_of value_text compare_release compare_key compare_public compare_label compare_values prefix_matches
    next_prefix compared small_release is_small release_word word_of worded word_answer holds accepted ranges_of two_bytes_of record_text ranges_text
    table_text
known_points =
    ((refl, refl), (refl, (refl, (refl, ((refl, refl), ((refl, refl), (refl, (refl, (refl, (refl, (refl, (refl, (refl, (refl, tt))))))))))))))
