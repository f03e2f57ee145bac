-- What C calls promises what the call of crate `simmergate` promises: the two contracts, as the check reads them from the sources, are the same. So what
-- that crate's laws say of any call with the contract, they say of any call from C.
use Rattle.std.proofs.Common.{◌≡◌, refl}
use Rattle.simmergate_c.proofs.simmergate_check.Reads as c_check
use Rattle.simmergate.proofs.simmergate_check.Reads as lib_check
use Rattle.simmergate_c.proofs.simmergate_weight.Reads as c_weight
use Rattle.simmergate.proofs.simmergate_weight.Reads as lib_weight
use Rattle.simmergate_c.proofs.simmergate_value.Reads as c_value
use Rattle.simmergate.proofs.simmergate_value.Reads as lib_value
use Rattle.simmergate_c.proofs.simmergate_equal.Reads as c_equal
use Rattle.simmergate.proofs.simmergate_equal.Reads as lib_equal
use Rattle.simmergate_c.proofs.simmergate_simplify.Reads as c_simplify
use Rattle.simmergate.proofs.simmergate_simplify.Reads as lib_simplify
use Rattle.simmergate_c.proofs.simmergate_batch.Reads as c_batch
use Rattle.simmergate.proofs.simmergate_batch.Reads as lib_batch
use Rattle.simmergate_c.proofs.simmergate_differ.Reads as c_differ
use Rattle.simmergate.proofs.simmergate_differ.Reads as lib_differ
use Rattle.simmergate_c.proofs.simmergate_read_text.Reads as c_read_text
use Rattle.simmergate.proofs.simmergate_read_text.Reads as lib_read_text
use Rattle.simmergate_c.proofs.simmergate_write_text.Reads as c_write_text
use Rattle.simmergate.proofs.simmergate_write_text.Reads as lib_write_text
use Rattle.simmergate_c.proofs.simmergate_receive.Reads as c_receive
use Rattle.simmergate.proofs.simmergate_receive.Reads as lib_receive
use Rattle.simmergate_c.proofs.simmergate_receive_finish.Reads as c_receive_finish
use Rattle.simmergate.proofs.simmergate_receive_finish.Reads as lib_receive_finish
use Rattle.simmergate_c.proofs.simmergate_settings_store.Reads as c_settings_store
use Rattle.simmergate.proofs.simmergate_settings_store.Reads as lib_settings_store
use Rattle.simmergate_c.proofs.simmergate_settings_fetch.Reads as c_settings_fetch
use Rattle.simmergate.proofs.simmergate_settings_fetch.Reads as lib_settings_fetch
use Rattle.simmergate_c.proofs.simmergate_settings_fetch_1.Reads as c_settings_fetch_1
use Rattle.simmergate.proofs.simmergate_settings_fetch_1.Reads as lib_settings_fetch_1
use Rattle.simmergate_c.proofs.simmergate_settings_remove.Reads as c_settings_remove
use Rattle.simmergate.proofs.simmergate_settings_remove.Reads as lib_settings_remove
use Rattle.simmergate_c.proofs.simmergate_open.Reads as c_open
use Rattle.simmergate.proofs.simmergate_open.Reads as lib_open
use Rattle.simmergate_c.proofs.simmergate_simplify_shared.Reads as c_simplify_shared
use Rattle.simmergate.proofs.simmergate_simplify_shared.Reads as lib_simplify_shared
use Rattle.simmergate_c.proofs.simmergate_release.Reads as c_release
use Rattle.simmergate.proofs.simmergate_release.Reads as lib_release

pub check_same : c_check.Post ≡ lib_check.Post
check_same = refl

pub weight_same : c_weight.Post ≡ lib_weight.Post
weight_same = refl

pub value_same : c_value.Post ≡ lib_value.Post
value_same = refl

pub equal_same : c_equal.Post ≡ lib_equal.Post
equal_same = refl

pub simplify_same : c_simplify.Post ≡ lib_simplify.Post
simplify_same = refl

pub batch_same : c_batch.Post ≡ lib_batch.Post
batch_same = refl

pub differ_same : c_differ.Post ≡ lib_differ.Post
differ_same = refl

pub read_text_same : c_read_text.Post ≡ lib_read_text.Post
read_text_same = refl

pub write_text_same : c_write_text.Post ≡ lib_write_text.Post
write_text_same = refl

pub receive_same : c_receive.Post ≡ lib_receive.Post
receive_same = refl

pub receive_finish_same : c_receive_finish.Post ≡ lib_receive_finish.Post
receive_finish_same = refl

pub settings_store_same : c_settings_store.Post ≡ lib_settings_store.Post
settings_store_same = refl

pub settings_fetch_same : c_settings_fetch.Post ≡ lib_settings_fetch.Post
settings_fetch_same = refl

pub settings_fetch_1_same : c_settings_fetch_1.Post ≡ lib_settings_fetch_1.Post
settings_fetch_1_same = refl

pub settings_remove_same : c_settings_remove.Post ≡ lib_settings_remove.Post
settings_remove_same = refl

pub open_same : c_open.Post ≡ lib_open.Post
open_same = refl

pub simplify_shared_same : c_simplify_shared.Post ≡ lib_simplify_shared.Post
simplify_shared_same = refl

pub release_same : c_release.Post ≡ lib_release.Post
release_same = refl
