-- The sizes of a sound board and of its state.
use Prim.Native.Nat.{ℕ, ◌≤◌}
use mathlib.Core.Path.{◌≡◌, ap, ◌∙◌}
use mathlib.Core.List.{List}
use lib.ListN.{length}
use Rattle.model.specs.State.{user_limit, post_limit, pending_limit}
use Rattle.model.specs.Board.{board_size, decode}
use Rattle.model.proofs.RecordTheorems.{user_codec, post_codec, pending_codec}
use Rattle.model.proofs.TableRecordLaws.{fits_count}
use Rattle.model.proofs.BoardTheorems.{length-encode}
use Rattle.model.proofs.SoundnessTheorems.{SoundState}

module _ {b : List ℕ} (w : SoundState b) where
  pub sound-length : length b ≡ board_size
  sound-length = ap length w.encoded.bytes ∙ length-encode (decode b) w.encoded.fits

  pub users-limit : length (decode b).users ≤ user_limit
  users-limit = fits_count user_codec user_limit (decode b).users w.encoded.fits.users

  pub posts-limit : length (decode b).posts ≤ post_limit
  posts-limit = fits_count post_codec post_limit (decode b).posts w.encoded.fits.posts

  pub pending-limit : length (decode b).pending ≤ pending_limit
  pending-limit = fits_count pending_codec pending_limit (decode b).pending w.encoded.fits.pending
