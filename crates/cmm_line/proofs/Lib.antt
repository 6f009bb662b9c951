mod Parser
mod Lines
mod FirstWord
