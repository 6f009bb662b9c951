pub mod PagerCall
pub mod PagerFollows
pub mod PagerStep
