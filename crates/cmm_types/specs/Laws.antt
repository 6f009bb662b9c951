-- Laws of the definitions beside this folder, which proofs here and in other crates cite. Nobody has to believe them.
pub mod RangeLaws
pub mod BytesLaws
pub mod SumLaws
